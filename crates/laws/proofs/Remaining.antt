-- What is left of a range: the next number, and what comes after it. Assumes nothing.
use mathlib.Core.Path.{◌≡◌}
use mathlib.Core.List.{[], ◌∷◌}
use Prim.Native.Nat.{ℕ, suc, ◌+◌, ◌-◌, ◌≤◌, ◌<◌}
use native.Mathlib.Numerals.{add-one}
use native.Mathlib.Omega.{arith}
use Rattle.laws.specs.Lists.{from}

pub next_left : (i n : ℕ) → i < n → from i (n - i) ≡ i ∷ from (i + 1) (n - (i + 1))
next_left i n h = let e : n - i ≡ suc (n - (i + 1)) = omega arith in rw (e, add-one)

pub none_left : (i n : ℕ) → n ≤ i → from i (n - i) ≡ []
none_left i n h = let e : n - i ≡ 0 = omega arith in rw e
