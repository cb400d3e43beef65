-- `plan::search` meets its contract: what is refused of the bytes, else as the numbers are searched. Assumes nothing.
use mathlib.Core.Path.{sym, ◌∙◌}
use native.Mathlib.Omega.{arith}
use Rattle.std.proofs.lemmas.Result.{err_from_is_err_and}
use Rattle.rules.specs.Refusals.{paper_answer}
use Rattle.plan.proofs.InBytes.{search_refused, search_lengths, search_bytes}
use Rattle.plan.proofs.search.Goals as goal

pub returns-in_err-judge : goal.returns-in_err-judge
unfolding paper_answer
returns-in_err-judge c =
    let a = c.args in
    let p = err_from_is_err_and c.from_residual.result c.from_residual.ensures.1 in
    rw (p.1, p.2) (search_refused a.g a.reg.now a.starts.now a.entries.now a.q a.r a.out.now _ (sym c.in_err-judge.ensures))

pub returns-then-off_four : goal.returns-then-off_four
unfolding paper_answer
returns-then-off_four c =
    let a = c.args in
    search_lengths a.g a.reg.now a.starts.now a.entries.now a.q a.r a.out.now (sym c.in_ok-judge.ensures) (sym c.off_four.ensures ∙ c.if-off_four.true)

pub returns : goal.returns
returns c =
    let a = c.args in
    search_bytes a.g a.reg.now a.starts.now a.entries.now a.q a.r a.out.now (sym c.in_ok-judge.ensures) (sym c.off_four.ensures ∙ c.if-off_four.false)
    _ _ c.search.auto.out (λ i h. omega (arith, c.slice_known-2-1.given i)) c.search.ensures
