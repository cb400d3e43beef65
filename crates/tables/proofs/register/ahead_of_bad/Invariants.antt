-- `tables::register::ahead_of_bad` meets its contract: what is left to look at begins with the first bad footprint of all. Assumes nothing.
use Rattle.rules.specs.Register.{count, bad_footprint}
use Rattle.tables.specs.First.{Sought}
use Rattle.tables.proofs.register.ahead_of_bad.Given as goal

abbrev pub invariant-loop-i : goal.invariant-loop-i
invariant-loop-i g l = Sought (bad_footprint l.g (g.F.Form.numbers l.reg)) (count (g.F.Form.numbers l.reg)) l.i
