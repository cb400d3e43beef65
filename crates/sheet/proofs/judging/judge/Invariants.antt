-- What was told so far, and what the lines that are left tell, is the whole.
use Rattle.std.proofs.Common.{◌-◌, length}
use Rattle.sheet.proofs.Progress.{Judging}
use Rattle.sheet.proofs.judging.judge.Given as goal

abbrev pub invariant-loop-at : goal.invariant-loop-at
invariant-loop-at l = Judging l.text l.initial.numbers l.numbers l.last l.at l.sheet.numbers l.sheet.footprints

abbrev pub decreases-loop-at : goal.decreases-loop-at
decreases-loop-at l = length l.text - l.at
