-- `join::masks::all_marks` meets its contract: one mask more at every turn. Assumes nothing.
use mathlib.Core.Path.{◌≡◌}
use lib.ListN.{length}
use Rattle.join.specs.Marks.{MarksBelow}
use Rattle.join.proofs.masks.all_marks.Given as goal

abbrev pub invariant-loop-k : goal.invariant-loop-k
invariant-loop-k l = (length l.masks ≡ 256) × MarksBelow l.k l.masks
