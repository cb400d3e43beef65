-- `join::boxes::box_of` meets its contract: grown on around what is left, it is the whole box. Assumes nothing.
use lib.ListN.{get_or}
use Rattle.rules.specs.Register.{rectangle}
use Rattle.join.proofs.Boxing.{Grown}
use Rattle.join.proofs.boxes.box_of.Given as goal

abbrev pub invariant-loop-i : goal.invariant-loop-i
invariant-loop-i l = Grown l.g l.reg l.run (rectangle l.g l.reg (get_or l.run 0 0)) l.b l.i-index
