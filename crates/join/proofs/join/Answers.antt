-- `join::join` meets its contract: the first refusal, or the pairs or refusal 6. Assumes nothing.
use mathlib.Core.Path.{◌∙◌}
use Rattle.std.proofs.lemmas.Result.{err_from_is_err_and}
use Rattle.join.proofs.Verdicts.{passed, refused, accepted}
use Rattle.join.proofs.join.Goals as goal

pub returns-in_err-judge : goal.returns-in_err-judge
returns-in_err-judge c =
    let p = err_from_is_err_and c.from_residual.result c.from_residual.ensures.1 in
    rw (p.1, p.2) (refused c.args.g c.args.left.now c.args.right.now c.args.r _ c.args.out.now c.in_err-judge.ensures)

pub invariant_of-write : goal.invariant_of-write
invariant_of-write c =
    record { judged = rw (c.same_tables.ensures, c.same_tables-2.ensures) (passed c.args.g c.args.left.now c.args.right.now c.args.r c.in_ok-judge.ensures); marks = c.all_marks-masks.ensures }

pub returns : goal.returns
returns c =
    c.write.ensures ∙ rw (c.same_tables.ensures, c.same_tables-2.ensures) (accepted c.args.g c.args.left.now c.args.right.now c.args.r c.args.out.now c.in_ok-judge.ensures)
