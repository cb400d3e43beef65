-- `grid::is_on` meets its contract: the shift is the division; past sixteen bits a mask has none. Assumes nothing.
use Rattle.std.proofs.Common.{◌≡◌, ℕ, ◌<◌, ◌≤◌, ◌^◌, false, rules}
use native.Mathlib.Nat.{div-eq_of_lt, lt_of_lt_of_le}
use lib.Pow.{pow_mono}
use Rattle.grid.specs.Places.{is_on}
use Rattle.grid.proofs.is_on.Goals as goal

past : (m k : ℕ) → m < 2 ^ 16 → 16 ≤ k → is_on m k ≡ false
unfolding is_on
past m k h l = simp (div-eq_of_lt (lt_of_lt_of_le h (pow_mono l)))

pub returns-then-k-lt16 : goal.returns-then-k-lt16
unfolding is_on
returns-then-k-lt16 c = search rules

pub returns-else-k-lt16 : goal.returns-else-k-lt16
returns-else-k-lt16 c = let e = past c.args.mask c.args.k c.ranges.mask.fits c.if-k-lt16.false in search rules
