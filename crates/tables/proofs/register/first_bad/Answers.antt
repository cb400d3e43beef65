-- `tables::register::first_bad` meets its contract: the first that is met is the first of all. Assumes nothing.
use Prim.Native.Nat.{◌<◌}
use Rattle.rules.specs.Register.{count, footprints, bad_footprints}
use Rattle.tables.proofs.Footprints.{sought_here, sought_out}
use native.Mathlib.Omega.{arith}
use Rattle.tables.proofs.register.first_bad.Goals as goal

pub returns-then-ahead-count : goal.returns-then-ahead-count
unfolding bad_footprints footprints
returns-then-ahead-count g c =
    let h : c.ahead_of_bad-ahead.result < count (g.F.Form.numbers c.args.reg.now) = omega (arith, c.if-ahead-count.true, c.count.ensures) in
    sought_here _ _ _ c.ahead_of_bad-ahead.ensures.sought h (c.ahead_of_bad-ahead.ensures.bad h)

pub returns-else-ahead-count : goal.returns-else-ahead-count
unfolding bad_footprints footprints
returns-else-ahead-count g c =
    sought_out _ _ _ c.ahead_of_bad-ahead.ensures.sought (omega (arith, c.if-ahead-count.false, c.count.ensures))
