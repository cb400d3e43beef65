-- Loops that keep pairs: what stands, with what is left kept on, is the whole; over a list from a place on, and over a range. Assumes nothing.
use mathlib.Core.Path.{◌≡◌, sym, ap, ◌∙◌}
use mathlib.Core.List.{List, [], ◌++◌}
use Prim.Native.Nat.{ℕ, ◌+◌, ◌-◌, ◌≤◌, ◌<◌}
use native.Mathlib.Numerals.{add-one}
use native.Mathlib.Omega.{arith}
use lib.ListN.{length, drop, get_or, length-append}
use lib.Seq.{drop-cons, drop-length}
use Rattle.laws.specs.Lists.{from, up_to, each}
use Rattle.laws.proofs.Remaining.{next_left, none_left}
use Rattle.rules.specs.Join.{Pair}
use Rattle.join.specs.Keeping.{Kept, kept}
use Rattle.join.proofs.Keeping.{kept_append, kept_pairs}

-- ---- any loop

module _ (s₀ : Kept) (all : List Pair) (s : Kept) where
  -- with l kept on, and then the rest, it is the whole
  pub step : (l rest : List Pair) (s' : Kept) → kept s (l ++ rest) ≡ kept s₀ all → s' ≡ kept s l → kept s' rest ≡ kept s₀ all
  step l rest s' e f = ap (λ (x : Kept). kept x rest) f ∙ sym (kept_append s l rest) ∙ e

  -- what is left is no more than was to be found
  pub few_left : (l rest : List Pair) (most : ℕ) → kept s (l ++ rest) ≡ kept s₀ all → s₀.pairs + length all ≤ most → s.pairs + length l ≤ most
  few_left l rest most e h =
      let a = kept_pairs s (l ++ rest) in
      let b = kept_pairs s₀ all in
      let f = ap (λ (x : Kept). x.pairs) e in
      omega (arith, length-append l rest)

-- ---- over a list, from place i on

module _ (f : ℕ → List Pair) (l : List ℕ) (s₀ : Kept) where
  abbrev pub OverList : Kept → ℕ → Type 0
  OverList s i = kept s (each f (drop i l)) ≡ kept s₀ (each f l)

  next : (i : ℕ) → i < length l → each f (drop i l) ≡ f (get_or l i 0) ++ each f (drop (i + 1) l)
  next i h = rw (drop-cons l i 0 h, add-one)

  pub list_step : (s s' : Kept) (i : ℕ) → i < length l → OverList s i → s' ≡ kept s (f (get_or l i 0)) → OverList s' (i + 1)
  list_step s s' i h e k =
      step s₀ (each f l) s (f (get_or l i 0)) (each f (drop (i + 1) l)) s' (ap (kept s) (sym (next i h)) ∙ e) k

  pub list_few : (s : Kept) (i most : ℕ) → i < length l → OverList s i → s₀.pairs + length (each f l) ≤ most → s.pairs + length (f (get_or l i 0)) ≤ most
  list_few s i most h e k =
      few_left s₀ (each f l) s (f (get_or l i 0)) (each f (drop (i + 1) l)) most (ap (kept s) (sym (next i h)) ∙ e) k

  pub list_end : (s : Kept) (i : ℕ) → i ≤ length l → length l ≤ i → OverList s i → s ≡ kept s₀ (each f l)
  unfolding kept
  list_end s i h k e =
      let whole : i ≡ length l = omega arith in
      let q : drop i l ≡ [] = ap (λ (n : ℕ). drop n l) whole ∙ drop-length l in
      sym (ap (λ (x : List ℕ). kept s (each f x)) q) ∙ e

-- ---- over the numbers below n, from i on

module _ (f : ℕ → List Pair) (n : ℕ) (s₀ : Kept) where
  abbrev pub OverRange : Kept → ℕ → Type 0
  OverRange s i = kept s (each f (from i (n - i))) ≡ kept s₀ (each f (up_to n))

  pub range_start : OverRange s₀ 0
  range_start = let e : n - 0 ≡ n = omega arith in rw e

  next_number : (i : ℕ) → i < n → each f (from i (n - i)) ≡ f i ++ each f (from (i + 1) (n - (i + 1)))
  next_number i h = rw (next_left i n h)

  pub range_step : (s s' : Kept) (i : ℕ) → i < n → OverRange s i → s' ≡ kept s (f i) → OverRange s' (i + 1)
  range_step s s' i h e k =
      step s₀ (each f (up_to n)) s (f i) (each f (from (i + 1) (n - (i + 1)))) s' (ap (kept s) (sym (next_number i h)) ∙ e) k

  pub range_few : (s : Kept) (i most : ℕ) → i < n → OverRange s i → s₀.pairs + length (each f (up_to n)) ≤ most → s.pairs + length (f i) ≤ most
  range_few s i most h e k =
      few_left s₀ (each f (up_to n)) s (f i) (each f (from (i + 1) (n - (i + 1)))) most (ap (kept s) (sym (next_number i h)) ∙ e) k

  pub range_end : (s : Kept) (i : ℕ) → n ≤ i → OverRange s i → s ≡ kept s₀ (each f (up_to n))
  unfolding kept
  range_end s i h e = sym (ap (λ (x : List ℕ). kept s (each f x)) (none_left i n h)) ∙ e
