-- `walk::ready::Outward::add_tile` meets its contract: what stands, with the runs from a class on brought to it, is the whole. Assumes nothing.
use mathlib.Core.Path.{refl, ap, ◌∙◌}
use mathlib.Core.List.{List}
use Prim.Native.Nat.{ℕ}
use Rattle.std.specs.Prelude.{Some}
use Rattle.rules.specs.Tables.{good_runs}
use Rattle.walk.specs.Fill.{stands, add_all}
use Rattle.walk.specs.Reading.{run_rows}
use Rattle.walk.proofs.Adding.{refilled}
use Rattle.walk.proofs.Bringing.{bring_all, bring_some, some_lost, bring_none}
use Rattle.walk.proofs.Judging.{starts_stand}
use Rattle.walk.proofs.Classes.{runs_all, both_good, class_rows, rows_none}
use Rattle.walk.specs.Outward.{lent_by}
use Rattle.walk.proofs.ready.Outward.add_tile.Goals as goal

pub loop-class-init : goal.loop-class-init
loop-class-init c =
    let a = c.args in
    let pre = c.requires in
    let lent = lent_by a.self.now in
    let e = runs_all a.tile c.tile_mask-mask.result a.self.now.g a.self.now.q c.tile_mask-mask.ensures in
    (bring_all a.front.now a.batch.now a.f _ _ refl pre.safe, ap (good_runs a.self.now.g lent) e ∙ pre.no_damage)

pub add_class-requires-clause-run_there : goal.add_class-requires-clause-run_there
add_class-requires-clause-run_there c =
    let a = c.args in
    let pre = c.requires in
    starts_stand a.self.now.g (lent_by a.self.now) a.self.now.lengths a.tile c.loop-class.class pre.tile_there c.loop-class-test.true

pub add_class-requires-clause-no_damage : goal.add_class-requires-clause-no_damage
add_class-requires-clause-no_damage c =
    let a = c.args in
    let loop = c.loop-class in
    (both_good a.self.now.g (lent_by a.self.now) a.tile c.tile_mask-mask.result loop.class c.loop-class-test.true loop.invariant.1).0

pub returns-in_err-f : goal.returns-in_err-f
returns-in_err-f c =
    let a = c.args in
    let mask = c.tile_mask-mask in
    let loop = c.loop-class in
    let lent = lent_by a.self.now in
    let s = stands a.front.now a.batch.now a.f in
    rw c.from_residual.ensures
    (some_lost loop.invariant.0 _ _ (class_rows a.self.now.g lent a.tile mask.result a.self.now.q loop.class c.loop-class-test.true) (c.in_err-f.ensures)
    ∙ ap (λ (l : List ℕ). add_all s (run_rows a.self.now.g lent a.self.now.q l)) (runs_all a.tile mask.result a.self.now.g a.self.now.q mask.ensures))

pub loop-class-preserved : goal.loop-class-preserved
loop-class-preserved c =
    let a = c.args in
    let mask = c.tile_mask-mask in
    let loop = c.loop-class in
    let lent = lent_by a.self.now in (
      bring_some loop.invariant.0 _ _ (class_rows a.self.now.g lent a.tile mask.result a.self.now.q loop.class c.loop-class-test.true) (c.in_ok-f.ensures),
      (both_good a.self.now.g lent a.tile mask.result loop.class c.loop-class-test.true loop.invariant.1).1,
    )

pub returns : goal.returns
returns c =
    let a = c.args in
    let mask = c.tile_mask-mask in
    let loop = c.loop-class in
    let lent = lent_by a.self.now in
    let s = stands a.front.now a.batch.now a.f in
    refilled loop.front loop.batch (Some loop.f) _ _
    (bring_none loop.invariant.0 (rows_none a.self.now.g lent a.tile mask.result a.self.now.q loop.class c.loop-class-test.false))
    (ap (λ (l : List ℕ). add_all s (run_rows a.self.now.g lent a.self.now.q l)) (runs_all a.tile mask.result a.self.now.g a.self.now.q mask.ensures))
