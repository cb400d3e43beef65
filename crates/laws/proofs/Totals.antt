-- Sums over a list, and the length of a part. Assumes nothing.
use mathlib.Core.Path.{◌≡◌, refl, ap}
use mathlib.Core.List.{List, [], ◌∷◌, ◌++◌, map}
use Prim.Native.Nat.{ℕ, ◌+◌, ◌-◌, ◌*◌, ◌≤◌}
use native.Mathlib.Omega.{arith}
use lib.ListN.{length, drop, length-take, length-drop}
use Rattle.laws.specs.Lists.{part, total}

module _ {A : Type 0} where
  pub total_append : (f : A → ℕ) (l m : List A) → total f (l ++ m) ≡ total f l + total f m
  total_append f [] m = omega arith
  total_append f (a ∷ l) m = omega (arith, total_append f l m)

  pub total_map : {B : Type 0} (f : A → ℕ) (h : B → A) (l : List B) → total f (map h l) ≡ total (λ b. f (h b)) l
  total_map f h [] = refl
  total_map f h (b ∷ l) = ap (λ (k : ℕ). f (h b) + k) (total_map f h l)

  -- elements that weigh the same
  pub total_same : (f : A → ℕ) (w : ℕ) (l : List A) → ((a : A) → f a ≡ w) → total f l ≡ length l * w
  total_same f w [] e = omega arith
  total_same f w (a ∷ l) e = omega (arith, e a, total_same f w l e)

  pub total_rises : (f h : A → ℕ) (l : List A) → ((a : A) → f a ≤ h a) → total f l ≤ total h l
  total_rises f h [] e = omega arith
  total_rises f h (a ∷ l) e = omega (arith, e a, total_rises f h l e)

  pub length_part : (l : List A) (a e : ℕ) → length (part l a e) ≤ length l
  length_part l a e = omega (arith, length-take (e - a) (drop a l), length-drop a l)
