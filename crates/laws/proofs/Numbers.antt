-- Squares and division. Assumes nothing.
use Prim.Native.Nat.{ℕ, suc, ◌*◌, ◌/◌, ◌≤◌, ◌<◌}
use native.Mathlib.Nat.{le-div_iff_mul-le, div-mul-le_self, mul-le-mul, le_trans, lt_irrefl}
use native.Mathlib.Omega.{arith}
use Rattle.laws.proofs.Tests.{by_le}

pub square_rises : {a b : ℕ} → a ≤ b → a * a ≤ b * b
square_rises h = mul-le-mul h h

pub square_back : {a b : ℕ} → a * a ≤ b * b → a ≤ b
square_back {a} {b} h = by_le a b (λ k. k) (λ k. absurd (lt_irrefl (b * b) (le_trans (more k) h)))
  where
    more : b < a → suc (b * b) ≤ a * a
    more k = le_trans (omega arith) (mul-le-mul k k)

pub div_rises : {a b : ℕ} {d : ℕ} → 0 < d → a ≤ b → a / d ≤ b / d
div_rises {a} {b} {d} pos h = (le-div_iff_mul-le pos).1 (le_trans (div-mul-le_self a d) h)
