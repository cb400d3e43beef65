-- `plan::build` meets its contract: what is refused of the bytes, else as the numbers are built. Assumes nothing.
use mathlib.Core.Path.{sym}
use native.Mathlib.Omega.{arith}
use Rattle.std.proofs.lemmas.Result.{err_from_is_err_and}
use Rattle.rules.specs.Refusals.{paper_answer}
use Rattle.plan.proofs.InBytes.{build_refused, build_bytes}
use Rattle.plan.proofs.build.Goals as goal

pub returns-in_err-judge : goal.returns-in_err-judge
unfolding paper_answer
returns-in_err-judge c =
    let a = c.args in
    let p = err_from_is_err_and c.from_residual.result c.from_residual.ensures.1 in
    rw (p.1, p.2) (build_refused a.g a.reg.now a.starts.now a.entries.now _ (sym c.in_err-judge.ensures))

pub returns : goal.returns
returns c =
    let a = c.args in
    let b = c.build in
    build_bytes a.g a.reg.now a.starts.now a.entries.now (sym c.in_ok-judge.ensures) _ _ _ (λ i h. omega (arith, c.slice_known-3-1.given i)) (λ i h. omega (arith, c.slice_known-4-1.given i)) b.auto.starts b.auto.entries b.ensures
