-- One dimension: a span's bits by its columns, the one column that gives it, and gaps to columns. Assumes nothing.
use mathlib.Core.Path.{◌≡◌, sym, ap₂}
use mathlib.Core.Bool.{◌&&◌}
use Prim.Native.Nat.{ℕ, suc, ◌+◌, ◌-◌, ◌*◌, ◌/◌, ◌≤◌, ◌<◌, max, min, suc-le-suc}
use native.Mathlib.Nat.{div-lt_iff_lt-mul, le-div_iff_mul-le, le_of_suc-le-suc, div-mul-le_self, lt-div-mul-add, mul-le-mul_right, le_trans, max-le, le-max_left, le-max_right}
use native.Mathlib.Omega.{arith}
use lib.Dec.{leb, ltb, eqb}
use borrow.Author.Tests.{lt-ltb, le-ltb, le-leb, lt-leb, eq-eqb, ne_eqb}
use Rattle.laws.proofs.Tests.{by_le, leb_same}
use Rattle.laws.proofs.Numbers.{div_rises}
use Rattle.rules.specs.Span.{at, cover, gap, meets, begins, ends, place, gives, drawn}
use Rattle.rules.specs.declared.Span.{Span}

-- of the columns a .. b the one that gives is cq drawn into them
pub one : (a b c cq : ℕ) → a ≤ b
    → (leb a c && leb c b && gives (place c cq) (ltb a c) (ltb c b)) ≡ eqb c (max a (min cq b))
unfolding place
one a b c cq h =
    by_le a c
    (λ ac. by_le c b
    (λ cb. by_le cq c
    (λ qc. by_le c cq
    (λ eq. simp (le-leb, le-ltb, lt-ltb) (sym (eq-eqb c (max a (min cq b)) (omega arith))))
    (λ lt. by_le c a
    (λ ca. simp (le-leb, le-ltb, lt-ltb) (sym (eq-eqb c (max a (min cq b)) (omega arith))))
    (λ ca. simp (le-leb, le-ltb, lt-ltb) (sym (ne_eqb c (max a (min cq b)) (omega arith))))))
    (λ qc. by_le b c
    (λ bc. simp (le-leb, le-ltb, lt-ltb) (sym (eq-eqb c (max a (min cq b)) (omega arith))))
    (λ bc. simp (le-leb, le-ltb, lt-ltb) (sym (ne_eqb c (max a (min cq b)) (omega arith))))))
    (λ cb. simp (le-leb, lt-leb) (sym (ne_eqb c (max a (min cq b)) (omega arith)))))
    (λ ac. simp lt-leb (sym (ne_eqb c (max a (min cq b)) (omega arith))))

-- the bits and the tile's columns, by column numbers
module _ {side : ℕ} (pos : 0 < side) (c : ℕ) (s : Span) where
  pub begins_col : begins side c s ≡ ltb (s.lo / side) c
  unfolding begins cover
  begins_col = leb_same _ _ _ _ (div-lt_iff_lt-mul pos).1 (div-lt_iff_lt-mul pos).0

  pub ends_col : ends side c s ≡ ltb c (s.hi / side)
  unfolding ends cover
  ends_col =
      leb_same (suc ((c + 1) * side - 1)) s.hi (suc c) (s.hi / side)
      (λ h. (le-div_iff_mul-le pos).1 (omega arith))
      (λ h. omega (arith, (le-div_iff_mul-le {x = suc c} pos).0 h))

  pub meets_col : meets (cover side c) s ≡ (leb (s.lo / side) c && leb c (s.hi / side))
  unfolding meets cover
  meets_col =
      ap₂ ◌&&◌
      (leb_same s.lo ((c + 1) * side - 1) (s.lo / side) c
      (λ h. le_of_suc-le-suc ((div-lt_iff_lt-mul {y = suc c} pos).1 (omega arith)))
      (λ h. omega (arith, (div-lt_iff_lt-mul {y = suc c} pos).0 (suc-le-suc h))))
      (leb_same _ _ _ _ (le-div_iff_mul-le pos).1 (le-div_iff_mul-le pos).0)

  -- where the span meets the column and the column gives its bits: at the one drawn column
  pub gives_one : s.lo ≤ s.hi → (cq : ℕ)
      → (meets (cover side c) s && gives (place c cq) (begins side c s) (ends side c s)) ≡ eqb c (drawn side cq s)
  unfolding drawn
  gives_one ok cq =
      rw (meets_col, begins_col, ends_col) (one (s.lo / side) (s.hi / side) c cq (div_rises pos ok))

-- what reaches as far as a span, or to the point, is no farther from it
pub gap_le : (q : ℕ) (t s : Span) → t.lo ≤ max s.lo q → min s.hi q ≤ t.hi → gap (at q) t ≤ gap (at q) s
unfolding gap
gap_le q t s h k = max-le (le_trans (left t.lo s.lo h) (le-max_left _ _)) (le_trans (right t.hi s.hi k) (le-max_right _ _))
  where
    left : (a b : ℕ) → a ≤ max b q → a - q ≤ b - q
    left a b h = omega arith

    right : (a b : ℕ) → min b q ≤ a → q - a ≤ q - b
    right a b h = omega arith

-- the tile column that reports a span is no farther than the span
module _ {side : ℕ} (pos : 0 < side) (q : ℕ) (s : Span) (ok : s.lo ≤ s.hi) where
  pub gap_drawn : gap (at q) (cover side (drawn side (q / side) s)) ≤ gap (at q) s
  unfolding drawn cover
  gap_drawn =
      by_le (s.lo / side) (q / side)
      (λ ac. by_le (q / side) (s.hi / side)
      (λ cb.
      let e : drawn side (q / side) s ≡ q / side = omega arith in
      rw e (gap_le q (cover side (q / side)) s (omega (arith, div-mul-le_self q side)) (omega (arith, lt-div-mul-add {a = q} pos))))
      (λ cb.
      let e : drawn side (q / side) s ≡ s.hi / side = omega (arith, div_rises pos ok) in
      rw e (gap_le q (cover side (s.hi / side)) s (omega (arith, div-mul-le_self q side, mul-le-mul_right side cb)) (omega (arith, lt-div-mul-add {a = s.hi} pos)))))
      (λ ac.
      let e : drawn side (q / side) s ≡ s.lo / side = omega (arith, div_rises pos ok) in
      rw e (gap_le q (cover side (s.lo / side)) s (omega (arith, div-mul-le_self s.lo side)) (omega (arith, lt-div-mul-add {a = q} pos, mul-le-mul_right side ac))))

-- a column nearer to the point's is no farther from the point
module _ {side : ℕ} (pos : 0 < side) (q : ℕ) where
  pub gap_after : (a b : ℕ) → q / side ≤ b → b ≤ a → gap (at q) (cover side b) ≤ gap (at q) (cover side a)
  unfolding cover
  gap_after a b h k =
      gap_le q (cover side b) (cover side a) (omega (arith, mul-le-mul_right side k)) (omega (arith, lt-div-mul-add {a = q} pos, mul-le-mul_right side h))

  pub gap_before : (a b : ℕ) → a ≤ b → b ≤ q / side → gap (at q) (cover side b) ≤ gap (at q) (cover side a)
  unfolding cover
  gap_before a b h k =
      gap_le q (cover side b) (cover side a) (omega (arith, div-mul-le_self q side, mul-le-mul_right side k)) (omega (arith, mul-le-mul_right side h))
