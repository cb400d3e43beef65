-- Rows as three numbers, and back: what a row in range stands for is read again, and three numbers that are read are those of their row.
-- Assumes nothing.
use mathlib.Core.Path.{◌≡◌, refl, sym, ap, ap₂, subst, ◌∙◌}
use Prim.Native.Nat.{ℕ, ◌<◌, ◌+◌, ◌*◌, ◌/◌, ◌%◌}
use native.Mathlib.Nat.{not-suc-le-zero}
use native.Mathlib.Omega.{arith}
use lib.Dec.{eqb, ltb}
use borrow.Author.Tests.{lt-ltb, eqb-true, eqb-false, ltb-true}
use Rattle.std.specs.Prelude.{Option, Some, None}
use Rattle.laws.proofs.Choices.{by_cond}
use Rattle.rules.specs.Sizes.{most_tiles, most_footprints}
use Rattle.rules.specs.Front.{three, row, direction_no, direction, encoded_item, encoded, decoded}
use Rattle.rules.specs.declared.Direction.{Direction}
use Rattle.rules.specs.declared.Direction.TheVariants.{Up, Right, Down, Left}
use Rattle.rules.specs.declared.Item.{Item}
use Rattle.rules.specs.declared.Item.TheVariants.{Group, Tile, Footprint}
use Rattle.rules.specs.declared.Row.{Row}
use Rattle.rules.specs.declared.Three.{Three}

-- ---- directions

pub direction_back : (d : Direction) → direction (direction_no d) ≡ d
direction_back Up = refl
direction_back Right = refl
direction_back Down = refl
direction_back Left = refl

pub direction_no_below : (d : Direction) → direction_no d < 4
direction_no_below Up = omega arith
direction_no_below Right = omega arith
direction_no_below Down = omega arith
direction_no_below Left = omega arith

pub number_of_direction : (k : ℕ) → k < 4 → direction_no (direction k) ≡ k
number_of_direction k h =
    let P : Direction → Type 0 = λ (d : Direction). direction_no d ≡ k in
    by_cond P (eqb k 0) _ _ (λ e. sym (eqb-true k 0 e))
    (λ n0. by_cond P (eqb k 1) _ _ (λ e. sym (eqb-true k 1 e))
    (λ n1. by_cond P (eqb k 2) _ _ (λ e. sym (eqb-true k 2 e))
    (λ n2. let a = eqb-false k 0 n0 in let b = eqb-false k 1 n1 in let c = eqb-false k 2 n2 in omega arith)))

-- ---- there and back

-- the numbers that a group, a tile or a footprint of some grid and register can have; of a square nothing is asked
abbrev pub InRange : Item → Type 0
InRange (Group d l) = l < 64
InRange (Tile t) = t < most_tiles * most_tiles
InRange (Footprint i) = i < most_footprints

module _ (s : ℕ) where
  group_back : (k l : ℕ) (d : Direction) → k < 4 → direction k ≡ d → l < 64 → decoded (three s 0 (k * 64 + l)) ≡ Some (row s (Group d l))
  unfolding decoded
  group_back k l d h e m =
      let q : (k * 64 + l) / 64 ≡ k = omega arith in
      let r : (k * 64 + l) % 64 ≡ l = omega arith in
      simp (lt-ltb (k * 64 + l) 256 (omega arith), q, r, e)

  item_back : (i : Item) → InRange i → decoded (encoded_item s i) ≡ Some (row s i)
  unfolding decoded
  item_back (Group d l) h = group_back (direction_no d) l d (direction_no_below d) (direction_back d) h
  item_back (Tile t) h = simp (lt-ltb _ _ h)
  item_back (Footprint i) h = simp (lt-ltb _ _ h)

pub decoded_encoded : (r : Row) → InRange r.item → decoded (encoded r) ≡ Some r
unfolding encoded
decoded_encoded r h = item_back r.square r.item h

-- ---- back and there

group_number : (n : ℕ) → n < 256 → direction_no (direction (n / 64)) * 64 + n % 64 ≡ n
group_number n h = let e = number_of_direction (n / 64) (omega arith) in omega arith

-- what three numbers stand for has these numbers, and they are in range
abbrev pub Stands : Three → Option Row → Type 0
Stands a o = (r : Row) → o ≡ Some r → (encoded r ≡ a) × InRange r.item

no_unknown : (a : Three) → Stands a None
no_unknown a r e = let z : ◌≡◌ {A = ℕ} 0 1 = cc in absurd (not-suc-le-zero {n = 0} (omega arith))

stands : (a : Three) (i : Item) → encoded_item a.square i ≡ a → InRange i → Stands a (Some (row a.square i))
unfolding encoded
stands a i e h r q =
    let p : ◌≡◌ {A = Row} (row a.square i) r = cc in
    (sym (ap encoded p) ∙ e, subst (λ (x : Row). InRange x.item) p h)

pub read_stands : (a : Three) → Stands a (decoded a)
unfolding decoded
read_stands a =
    let n = a.number in
    by_cond (Stands a) (eqb a.kind 0) _ _
    (λ k. by_cond (Stands a) (ltb n 256) _ _
    (λ h. stands a _ (ap₂ (three a.square) (sym (eqb-true _ _ k)) (group_number n (ltb-true _ _ h))) (omega arith)) (λ _. no_unknown a))
    (λ _. by_cond (Stands a) (eqb a.kind 1) _ _
    (λ k. by_cond (Stands a) (ltb n (most_tiles * most_tiles)) _ _
    (λ h. stands a _ (ap (λ (j : ℕ). three a.square j n) (sym (eqb-true _ _ k))) (ltb-true _ _ h)) (λ _. no_unknown a))
    (λ _. by_cond (Stands a) (eqb a.kind 2) _ _
    (λ k. by_cond (Stands a) (ltb n most_footprints) _ _
    (λ h. stands a _ (ap (λ (j : ℕ). three a.square j n) (sym (eqb-true _ _ k))) (ltb-true _ _ h)) (λ _. no_unknown a))
    (λ _. no_unknown a)))

pub encoded_decoded : (a : Three) (r : Row) → decoded a ≡ Some r → encoded r ≡ a
encoded_decoded a r e = (read_stands a r e).0

pub decoded_in_range : (a : Three) (r : Row) → decoded a ≡ Some r → InRange r.item
decoded_in_range a r e = (read_stands a r e).1
