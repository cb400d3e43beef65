-- `index::judged::Judged::is_run` meets its contract: one pass that stops at the first entry that is not right. Assumes nothing.
use mathlib.Core.Path.{sym, ◌∙◌}
use Prim.Native.Nat.{◌/◌, ◌%◌, ◌<◌}
use native.Mathlib.Omega.{arith}
use lib.ListN.{length}
use borrow.Author.Tests.{le-ltb, lt-ltb}
use Rattle.laws.proofs.Scans.{falls, fails, rises_on, rises_out}
use Rattle.laws.proofs.Tests.{both_true}
use Rattle.rules.specs.Register.{count}
use Rattle.index.specs.Check.{is_run}
use Rattle.index.proofs.Right.{stands_at_law, tile_on}
use Rattle.index.proofs.judged.Judged.is_run.Invariants.{passes}
use Rattle.index.proofs.judged.Judged.is_run.Given as given
use Rattle.index.proofs.judged.Judged.is_run.Goals.{Start, else-least-i-via-then-least-i+then-i-all+else-stands, else-least-i-via-then-least-i+else-i-all, else-least-i-via-else-least-i}
use Rattle.index.proofs.judged.Judged.is_run.Goals as goal

-- the run's tile is on the grid
on : (form : given.Over) (c : Start form) → (c.args.k / 16 / c.args.self.now.g.n < 64) × (c.args.k / 16 % c.args.self.now.g.n < 64)
on form c =
    let s = c.args.self.now.sizes in
    let t = tile_on c.args.self.now.g c.args.k s.0 c.requires in
    (omega (arith, t, s.1), omega (arith, t, s.1))

pub overflow_cast-row : goal.overflow_cast-row
overflow_cast-row form c = omega (arith, on form (goal.at.overflow_cast-row form c).Start)

pub stands-requires-clause-on_grid : goal.stands-requires-clause-on_grid
stands-requires-clause-on_grid form c = on form (goal.at.stands-requires-clause-on_grid form c).Start

pub returns-else-least-i : goal.returns-else-least-i
unfolding is_run
returns-else-least-i form c =
    let p = passes c.args.self.now.g (form.F.Form.numbers c.args.self.now.reg.now) c.args.k in
    let l = form.F.Form.numbers c.args.run.now in
    let more : c.loop-j.j < length l = omega (arith, c.loop-j-test.true, c.count-j-end.ensures) in
    elim c.else-least-i.branch [
      | else-least-i-via-else-least-i w ↦ falls p l _ _ c.loop-j.invariant c.get-i.result more c.get-i.ensures w.if-least-i.false
      | else-least-i-via-then-least-i+else-i-all w ↦ fails p l _ _ c.loop-j.invariant c.get-i.result more c.get-i.ensures
          (rw (le-ltb c.get-i.result (count (form.F.Form.numbers c.args.self.now.reg.now)) (omega (arith, w.if-i-all.false, c.count-all.ensures))))
      | else-least-i-via-then-least-i+then-i-all+else-stands w ↦ fails p l _ _ c.loop-j.invariant c.get-i.result more c.get-i.ensures
          (rw (lt-ltb c.get-i.result (count (form.F.Form.numbers c.args.self.now.reg.now)) (omega (arith, w.if-i-all.true, c.count-all.ensures)))
          (sym (stands_at_law c.args.self.now.g (form.F.Form.numbers c.args.self.now.reg.now) c.args.k c.get-i.result) ∙ sym w.stands.ensures ∙ w.if-stands.false))
    ]

pub loop-j-preserved : goal.loop-j-preserved
loop-j-preserved form c =
    let reg = form.F.Form.numbers c.args.self.now.reg.now in
    rises_on (passes c.args.self.now.g reg c.args.k) (form.F.Form.numbers c.args.run.now) _ _ c.loop-j.invariant c.get-i.result (omega (arith, c.loop-j-test.true, c.count-j-end.ensures)) c.get-i.ensures c.if-least-i.true
    (both_true (lt-ltb c.get-i.result (count reg) (omega (arith, c.if-i-all.true, c.count-all.ensures))) (sym (stands_at_law c.args.self.now.g reg c.args.k c.get-i.result) ∙ sym c.stands.ensures ∙ c.if-stands.true))

pub returns : goal.returns
unfolding is_run
returns form c =
    rises_out (passes c.args.self.now.g (form.F.Form.numbers c.args.self.now.reg.now) c.args.k) (form.F.Form.numbers c.args.run.now) _ _ c.loop-j.invariant (omega (arith, c.loop-j-test.false, c.count-j-end.ensures))
