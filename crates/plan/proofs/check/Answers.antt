-- `plan::check` meets its contract: what is refused of the bytes, else as the numbers are checked. Assumes nothing.
use mathlib.Core.Path.{sym}
use Rattle.std.proofs.lemmas.Result.{err_from_is_err_and}
use Rattle.rules.specs.Refusals.{paper_checked}
use Rattle.plan.proofs.InBytes.{check_refused, check_bytes}
use Rattle.plan.proofs.check.Goals as goal

pub returns-in_err-judge : goal.returns-in_err-judge
unfolding paper_checked
returns-in_err-judge c =
    let a = c.args in
    let p = err_from_is_err_and c.from_residual.result c.from_residual.ensures.1 in
    rw (p.1, p.2) (check_refused a.g a.reg.now a.starts.now a.entries.now _ (sym c.in_err-judge.ensures))

pub returns : goal.returns
returns c =
    let a = c.args in
    check_bytes a.g a.reg.now a.starts.now a.entries.now (sym c.in_ok-judge.ensures) _ c.check.ensures
