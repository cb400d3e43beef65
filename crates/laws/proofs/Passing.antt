-- Judging one after the other: whether all of a list, or of a range, pass is whether those left pass; what all pass, each place passes. Assumes nothing.
use mathlib.Core.Path.{◌≡◌, sym, ap, ◌∙◌}
use mathlib.Core.Bool.{Bool, true, false, not, ◌&&◌}
use mathlib.Core.List.{List, [], ◌∷◌}
use Prim.Native.Nat.{ℕ, zero, suc, ◌+◌, ◌-◌, ◌≤◌, ◌<◌}
use native.Mathlib.Nat.{not-suc-le-zero}
use native.Mathlib.Numerals.{add-one}
use native.Mathlib.Omega.{arith}
use lib.ListN.{length, drop, get_or, drop_of_length-le}
use lib.Seq.{drop-cons}
use Rattle.laws.specs.Lists.{from, up_to, all}
use Rattle.laws.proofs.Remaining.{next_left, none_left}
use Rattle.laws.proofs.Tests.{fst_true, snd_true}

fails : (a b : Bool) → a ≡ false → true ≡ not (a && b)
fails a b e = rw e

passes : (a b : Bool) → a ≡ true → (a && b) ≡ b
passes a b e = rw e

-- ---- over a list, from place i on

module _ (p : ℕ → Bool) (l : List ℕ) where
  abbrev pub LeftOf : ℕ → Type 0
  LeftOf i = all p (drop i l) ≡ all p l

  next : (i : ℕ) → i < length l → all p (drop i l) ≡ (p (get_or l i 0) && all p (drop (i + 1) l))
  next i h = rw (drop-cons l i 0 h, add-one)

  pub left_bad : (i : ℕ) → i < length l → LeftOf i → p (get_or l i 0) ≡ false → true ≡ not (all p l)
  left_bad i h e f = fails _ (all p (drop (i + 1) l)) f ∙ ap not (sym (next i h) ∙ e)

  pub left_good : (i : ℕ) → i < length l → LeftOf i → p (get_or l i 0) ≡ true → LeftOf (i + 1)
  left_good i h e f = sym (passes _ (all p (drop (i + 1) l)) f) ∙ sym (next i h) ∙ e

  pub left_none : (i : ℕ) → length l ≤ i → LeftOf i → false ≡ not (all p l)
  left_none i h e = ap (λ (x : List ℕ). not (all p x)) (sym (drop_of_length-le l h)) ∙ ap not e

-- ---- over the numbers below n, from i on

module _ (p : ℕ → Bool) (n : ℕ) where
  abbrev pub LeftBelow : ℕ → Type 0
  LeftBelow i = all p (from i (n - i)) ≡ all p (up_to n)

  pub below_start : LeftBelow 0
  below_start = let e : n - 0 ≡ n = omega arith in rw e

  pub below_bad : (i : ℕ) → i < n → LeftBelow i → p i ≡ false → true ≡ not (all p (up_to n))
  below_bad i h e f = fails (p i) (all p (from (i + 1) (n - (i + 1)))) f ∙ ap not (sym (ap (all p) (next_left i n h)) ∙ e)

  pub below_good : (i : ℕ) → i < n → LeftBelow i → p i ≡ true → LeftBelow (i + 1)
  below_good i h e f = sym (passes (p i) (all p (from (i + 1) (n - (i + 1)))) f) ∙ sym (ap (all p) (next_left i n h)) ∙ e

  pub below_none : (i : ℕ) → n ≤ i → LeftBelow i → false ≡ not (all p (up_to n))
  below_none i h e = ap (λ (x : List ℕ). not (all p x)) (sym (none_left i n h)) ∙ ap not e

-- ---- at a place

pub all_at : (p : ℕ → Bool) (l : List ℕ) (i : ℕ) → i < length l → all p l ≡ true → p (get_or l i 0) ≡ true
all_at p [] i h e = absurd (not-suc-le-zero h)
all_at p (x ∷ l) zero h e = fst_true (p x) _ e
all_at p (x ∷ l) (suc i) h e = all_at p l i (omega arith) (snd_true (p x) _ e)
