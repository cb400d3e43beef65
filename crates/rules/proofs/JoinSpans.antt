-- One dimension of the join: of two spans' columns exactly one pair is joined, whatever the offset, and it is near where the spans are.
-- Assumes nothing.
use mathlib.Core.Path.{◌≡◌}
use mathlib.Core.Bool.{true, false, ◌&&◌}
use Prim.Native.Nat.{ℕ, suc, ◌+◌, ◌/◌, ◌≤◌, ◌<◌, max, min}
use native.Mathlib.Nat.{div-lt_iff_lt-mul, le_of_suc-le-suc, lt-div-mul-add}
use native.Mathlib.Omega.{arith}
use lib.Dec.{leb, ltb, eqb}
use borrow.Author.Tests.{le-ltb, le-leb, lt-leb, eqb-true, eq-eqb}
use Rattle.laws.proofs.Tests.{by_le, not_both}
use Rattle.laws.proofs.Numbers.{div_rises}
use Rattle.rules.specs.Span.{cover, gap, meets, begins, ends, place, drawn, joined}
use Rattle.rules.specs.Join.{beside}
use Rattle.rules.specs.declared.Span.{Span}
use Rattle.rules.proofs.Spans.{meets_col, begins_col, ends_col}

-- of the columns a .. b of R and a' .. b' of S the joined pair is: each one's first column drawn into the other's columns
pub pair : (a b a' b' c d : ℕ) → a ≤ b → a' ≤ b'
    → (leb a c && leb c b && (leb a' d && leb d b') && joined (place d c) (ltb a c) (ltb c b) (ltb a' d) (ltb d b'))
    ≡ (eqb c (max a (min a' b)) && eqb d (max a' (min a b')))
unfolding place
pair a b a' b' c d h h' =
    by_le a c (λ ac. by_le c b (λ cb. by_le a' d (λ ad. by_le d b' (λ db. inside ac cb ad db)
    (λ db. simp (le-leb, lt-leb) (no_both (λ e f. omega arith))))
    (λ ad. simp (le-leb, lt-leb) (no_both (λ e f. omega arith))))
    (λ cb. simp (le-leb, lt-leb) (no_both (λ e f. omega arith))))
    (λ ac. simp lt-leb (no_both (λ e f. omega arith)))
  where
    C : ℕ
    C = max a (min a' b)

    D : ℕ
    D = max a' (min a b')

    no_both : (c ≡ C → d ≡ D → ⊥) → false ≡ (eqb c C && eqb d D)
    no_both f = not_both (eqb c C) (eqb d D) (λ u v. f (eqb-true c C u) (eqb-true d D v))

    both : c ≡ C → d ≡ D → true ≡ (eqb c C && eqb d D)
    both e f = rw (eq-eqb c C e, eq-eqb d D f)

    inside : a ≤ c → c ≤ b → a' ≤ d → d ≤ b'
        → (leb a c && leb c b && (leb a' d && leb d b') && joined (place d c) (ltb a c) (ltb c b) (ltb a' d) (ltb d b')) ≡ (eqb c C && eqb d D)
    inside ac cb ad db =
        by_le c d (λ cd. by_le d c (λ dc. by_le c a
        (λ ca. simp (le-leb, le-ltb) (both (omega arith) (omega arith)))
        (λ ca. by_le d a'
        (λ da. simp (le-leb, le-ltb) (both (omega arith) (omega arith)))
        (λ da. simp (le-leb, le-ltb) (no_both (λ e f. omega arith)))))
        (λ dc. by_le b c (λ bc. by_le d a'
        (λ da. simp (le-leb, le-ltb) (both (omega arith) (omega arith)))
        (λ da. simp (le-leb, le-ltb) (no_both (λ e f. omega arith))))
        (λ bc. simp (le-leb, le-ltb) (no_both (λ e f. omega arith)))))
        (λ cd. by_le c a (λ ca. by_le b' d
        (λ bd. simp (le-leb, le-ltb) (both (omega arith) (omega arith)))
        (λ bd. simp (le-leb, le-ltb) (no_both (λ e f. omega arith))))
        (λ ca. simp le-leb (no_both (λ e f. omega arith))))

module _ {side : ℕ} (pos : 0 < side) (s v : Span) (ok : s.lo ≤ s.hi) (ok' : v.lo ≤ v.hi) where
  -- of all pairs of columns that two spans meet, one is joined
  pub joined_one : (c d : ℕ)
      → (meets (cover side c) s && meets (cover side d) v
      && joined (place d c) (begins side c s) (ends side c s) (begins side d v) (ends side d v))
      ≡ (eqb c (drawn side (v.lo / side) s) && eqb d (drawn side (s.lo / side) v))
  unfolding drawn
  joined_one c d =
      rw (meets_col pos c s, meets_col pos d v, begins_col pos c s, ends_col pos c s, begins_col pos d v, ends_col pos d v)
      (pair (s.lo / side) (s.hi / side) (v.lo / side) (v.hi / side) c d (div_rises pos ok) (div_rises pos ok'))

  -- within side of each other, these two columns are beside each other
  pub joined_beside : gap s v ≤ side → beside (drawn side (v.lo / side) s) (drawn side (s.lo / side) v) ≡ true
  unfolding gap beside drawn
  joined_beside h = rw (le-leb _ _ (half s v ok ok' (omega arith)), le-leb _ _ (half v s ok' ok (omega arith)))
    where
      half : (s v : Span) → s.lo ≤ s.hi → v.lo ≤ v.hi → s.lo ≤ v.hi + side
          → max (s.lo / side) (min (v.lo / side) (s.hi / side)) ≤ max (v.lo / side) (min (s.lo / side) (v.hi / side)) + 1
      half s v o o' k =
          let f : s.lo / side ≤ v.hi / side + 1 =
          le_of_suc-le-suc ((div-lt_iff_lt-mul {y = suc (v.hi / side + 1)} pos).1 (omega (arith, lt-div-mul-add {a = v.hi} pos))) in
          omega (arith, div_rises pos o, div_rises pos o')
