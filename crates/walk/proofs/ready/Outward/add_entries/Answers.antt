-- `walk::ready::Outward::add_entries` meets its contract: what stands, with the entries that are left brought to it, is the whole. Assumes nothing.
use mathlib.Core.Path.{ap, ◌∙◌}
use Rattle.walk.specs.Fill.{stands, add_to, Held}
use Rattle.walk.proofs.Bringing.{bring_one, bring_lost, bring_none}
use Rattle.walk.proofs.Entries.{next_good, rows_next, rows_end}
use Rattle.walk.proofs.ready.Outward.add_entries.Goals as goal

pub footprint_row-requires : goal.footprint_row-requires
footprint_row-requires c =
    let a = c.args in
    let loop = c.loop-i in
    record { may_stand = (next_good a.self.now.g a.self.now.reg.now a.entries.now loop.i-index c.loop-i-test.true loop.invariant.1).0 }

pub returns-in_err-f : goal.returns-in_err-f
returns-in_err-f c =
    let a = c.args in
    let loop = c.loop-i in
    rw c.from_residual.ensures
    (bring_lost loop.invariant.0 _ _ (rows_next a.self.now.g a.self.now.reg.now a.entries.now loop.i-index c.loop-i-test.true a.self.now.q)
    (c.in_err-f.ensures ∙ ap (add_to (stands loop.front loop.batch loop.f)) c.footprint_row.ensures))

pub loop-i-preserved : goal.loop-i-preserved
loop-i-preserved c =
    let a = c.args in
    let loop = c.loop-i in
    let new : Held c.add.new.front c.add.new.batch c.in_ok-f.f (add_to (stands loop.front loop.batch loop.f) _) = rw c.footprint_row.ensures at (c.in_ok-f.ensures) in (
      bring_one loop.invariant.0 _ _ (rows_next a.self.now.g a.self.now.reg.now a.entries.now loop.i-index c.loop-i-test.true a.self.now.q) new,
      (next_good a.self.now.g a.self.now.reg.now a.entries.now loop.i-index c.loop-i-test.true loop.invariant.1).1,
    )

pub returns : goal.returns
returns c =
    let a = c.args in
    let loop = c.loop-i in
    bring_none loop.invariant.0 (rows_end a.self.now.g a.self.now.reg.now a.entries.now loop.i-index a.self.now.q c.loop-i-test.false)
