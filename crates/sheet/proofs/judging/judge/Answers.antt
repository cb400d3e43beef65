use Rattle.std.proofs.Common.{arith, sym, ◌∙◌}
use Rattle.sheet.proofs.Progress.{judging_start, line_within, few_more, judging_line, judged_bad, judged_good, judged_short, judged_long, judged_roomless}
use Rattle.sheet.proofs.judging.judge.Goals as goal

pub returns-then-numbers-lt-MOST_NUMBERS : goal.returns-then-numbers-lt-MOST_NUMBERS
returns-then-numbers-lt-MOST_NUMBERS c = judged_roomless c.args.text.now c.args.numbers.now c.if-numbers-lt-MOST_NUMBERS.true

pub returns-then-text-gt-MOST_BYTES : goal.returns-then-text-gt-MOST_BYTES
returns-then-text-gt-MOST_BYTES c = judged_long c.args.text.now c.args.numbers.now c.if-numbers-lt-MOST_NUMBERS.false c.if-text-gt-MOST_BYTES.true

pub loop-at-init : goal.loop-at-init
loop-at-init c = judging_start c.args.text.now c.args.numbers.now

pub returns-in_default : goal.returns-in_default
returns-in_default c =
    judged_bad _ _ _ _ _ _ _ c.loop-at.invariant c.if-numbers-lt-MOST_NUMBERS.false c.if-text-gt-MOST_BYTES.false c.loop-at-test.true (sym c.line_at.ensures ∙ c.in_default.is)

pub overflow_add-sheet-in-loop-at : goal.overflow_add-sheet-in-loop-at
overflow_add-sheet-in-loop-at c =
    let l = c.loop-at in
    omega (arith, few_more _ _ _ _ _ _ _ l.invariant c.if-numbers-lt-MOST_NUMBERS.false c.if-text-gt-MOST_BYTES.false c.loop-at-test.true _ (sym c.line_at.ensures ∙ c.in-Some.is) _ c.ends_footprint.ensures)

pub loop-at-smaller : goal.loop-at-smaller
loop-at-smaller c =
    let l = c.loop-at in
    let f = line_within _ _ _ _ _ _ _ l.invariant c.if-numbers-lt-MOST_NUMBERS.false c.if-text-gt-MOST_BYTES.false c.loop-at-test.true _ (sym c.line_at.ensures ∙ c.in-Some.is) in
    omega arith

pub loop-at-preserved : goal.loop-at-preserved
loop-at-preserved c =
    let l = c.loop-at in
    judging_line _ _ _ _ _ _ _ l.invariant c.if-numbers-lt-MOST_NUMBERS.false c.if-text-gt-MOST_BYTES.false c.loop-at-test.true _ (sym c.line_at.ensures ∙ c.in-Some.is) _ c.ends_footprint.ensures

pub returns-then-may_end : goal.returns-then-may_end
returns-then-may_end c =
    judged_good _ _ _ _ _ _ _ c.loop-at.invariant c.if-numbers-lt-MOST_NUMBERS.false c.if-text-gt-MOST_BYTES.false c.loop-at-test.false _ c.may_end.ensures c.if-may_end.true

pub returns-else-may_end : goal.returns-else-may_end
returns-else-may_end c =
    judged_short _ _ _ _ _ _ _ c.loop-at.invariant c.if-numbers-lt-MOST_NUMBERS.false c.if-text-gt-MOST_BYTES.false c.loop-at-test.false _ c.may_end.ensures c.if-may_end.false
