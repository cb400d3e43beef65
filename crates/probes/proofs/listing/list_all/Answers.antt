-- `probes::listing::list_all` meets its contract: each turn is one probe's step, and the first that is refused is the last. Assumes nothing.
use mathlib.Core.Path.{◌≡◌, sym, ◌∙◌}
use Prim.Native.Nat.{◌+◌}
use native.Mathlib.Omega.{arith}
use lib.ListN.{set}
use lib.Seq.{set_out}
use Rattle.std.proofs.lemmas.Result.{err_from_is_err_and}
use Rattle.probes.proofs.Turns.{rest_begin, rest_end, few_listed, rest_listed, rest_refused}
use Rattle.probes.proofs.listing.list_all.Goals as goal
use Rattle.probes.proofs.listing.list_all.Goals.{then-i-ends, else-i-ends}

pub loop-i-init : goal.loop-i-init
loop-i-init c =
    let a = c.args in
    record { below = omega arith; rest = rest_begin a.g a.t.now a.probes.now a.lent.now a.ends.now }

pub returns-in_err-total : goal.returns-in_err-total
returns-in_err-total c =
    let a = c.args in
    let l = c.loop-i in
    let p = err_from_is_err_and c.from_residual.result c.from_residual.ensures.1 in
    rw (p.1, p.2)
    (rest_refused a.g a.t.now a.probes.now l.i l.total l.lent l.ends _ _ c.list_at.ensures _ c.in_err-total.was c.loop-i-test.true
    ∙ l.invariant.rest)

pub overflow_add-total : goal.overflow_add-total
overflow_add-total c =
    let a = c.args in
    let l = c.loop-i in
    omega (
      arith,
      few_listed a.g a.t.now a.probes.now l.i l.total l.lent l.ends _ _ c.list_at.ensures _ c.in_ok-total.was,
      l.invariant.below,
      c.requires,
    )

pub loop-i-preserved : goal.loop-i-preserved
loop-i-preserved c =
    let a = c.args in
    let l = c.loop-i in
    let n = c.in_ok-total.field-0 in
    let few = few_listed a.g a.t.now a.probes.now l.i l.total l.lent l.ends _ _ c.list_at.ensures _ c.in_ok-total.was in
    let e : c.if-i-ends.ends ≡ set l.ends l.i (l.total + n) =
    elim c.if-i-ends.branch [ then-i-ends w ↦ w.ends-is | else-i-ends w ↦ w.ends-is ∙ sym (set_out l.ends l.i (l.total + n) w.if-i-ends.false) ] in
    record {
      below = omega (arith, few, l.invariant.below);
      rest = rw e (rest_listed a.g a.t.now a.probes.now l.i l.total l.lent l.ends _ _ c.list_at.ensures _ c.in_ok-total.was c.loop-i-test.true)
          ∙ l.invariant.rest;
    }

pub returns : goal.returns
returns c =
    let a = c.args in
    let l = c.loop-i in
    sym (rest_end a.g a.t.now a.probes.now l.i (_, l.lent, l.ends) (omega arith)) ∙ l.invariant.rest
