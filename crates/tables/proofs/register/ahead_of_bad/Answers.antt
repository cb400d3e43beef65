-- `tables::register::ahead_of_bad` meets its contract: what is left to look at begins with the first bad footprint of all. Assumes nothing.
use mathlib.Core.Path.{sym, ◌∙◌}
use Rattle.tables.proofs.Footprints.{sought_on}
use native.Mathlib.Omega.{arith}
use Rattle.tables.proofs.register.ahead_of_bad.Goals as goal

pub loop-i-preserved : goal.loop-i-preserved
loop-i-preserved g c =
    sought_on _ _ _ c.loop-i.invariant (omega (arith, c.loop-i-test.true, c.count-all.ensures)) (sym c.bad_footprint.ensures ∙ c.if-bad_footprint.false)
