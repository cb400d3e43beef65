-- Groups, tiles and footprints as waiting rows: each has a place of its own in the order, and places rise
-- from a group to its tiles and its next group, from a tile to its footprints. Assumes nothing.
use mathlib.Core.Path.{◌≡◌, sym, ap, ap₂, ◌∙◌}
use mathlib.Core.Logic.{◌↔◌}
use Prim.Native.Nat.{ℕ, ◌+◌, ◌*◌, ◌/◌, ◌≤◌, ◌<◌}
use native.Mathlib.Omega.{arith}
use lib.Arith.{digits_div}
use Rattle.rules.specs.Front.{direction_no, direction, encoded_item}
use Rattle.rules.specs.declared.Direction.{Direction}
use Rattle.rules.specs.declared.Item.{Item}
use Rattle.rules.specs.declared.Item.TheVariants.{Group, Tile, Footprint}
use Rattle.rules.proofs.Encoding.{direction_back, direction_no_below, InRange}
use Rattle.rules.proofs.Keys.{Small, key_row, key_number, key_kind, key_rises, key_rises_number, key_passed}

pub small_item : (s : ℕ) (z : Item) → InRange z → Small (encoded_item s z)
small_item s (Group d l) h = record { kind_lt = omega arith; number_lt = omega (arith, direction_no_below d) }
small_item s (Tile t) h = record { kind_lt = omega arith; number_lt = omega arith }
small_item s (Footprint i) h = record { kind_lt = omega arith; number_lt = h }

-- one place in the order, one item
module _ (s t : ℕ) where
  apart_kinds : (a b : Item) → InRange a → InRange b → key_row (encoded_item s a) ≡ key_row (encoded_item t b)
      → (encoded_item s a).kind ≡ (encoded_item t b).kind
  apart_kinds a b u v e = key_kind _ _ (small_item s a u) (small_item t b v) e

  pub one_item : (a b : Item) → InRange a → InRange b → key_row (encoded_item s a) ≡ key_row (encoded_item t b) → a ≡ b
  one_item (Group d l) (Group e k) u v p =
      let m : direction_no d * 64 + l ≡ direction_no e * 64 + k = key_number _ _ (small_item s (Group d l) u) (small_item t (Group e k) v) p in
      let f : direction_no d ≡ direction_no e = sym (digits_div (direction_no d) u) ∙ ap (λ (x : ℕ). x / 64) m ∙ digits_div (direction_no e) v in
      ap₂ Group (sym (direction_back d) ∙ ap direction f ∙ direction_back e) (omega arith)
  one_item (Tile a) (Tile b) u v p = ap Tile (key_number _ _ (small_item s (Tile a) u) (small_item t (Tile b) v) p)
  one_item (Footprint i) (Footprint j) u v p = ap Footprint (key_number _ _ (small_item s (Footprint i) u) (small_item t (Footprint j) v) p)
  one_item (Group d l) (Tile b) u v p = let k : ◌≡◌ {A = ℕ} 0 1 = apart_kinds (Group d l) (Tile b) u v p in absurd (omega arith)
  one_item (Group d l) (Footprint j) u v p = let k : ◌≡◌ {A = ℕ} 0 2 = apart_kinds (Group d l) (Footprint j) u v p in absurd (omega arith)
  one_item (Tile a) (Group e k) u v p = let k : ◌≡◌ {A = ℕ} 1 0 = apart_kinds (Tile a) (Group e k) u v p in absurd (omega arith)
  one_item (Tile a) (Footprint j) u v p = let k : ◌≡◌ {A = ℕ} 1 2 = apart_kinds (Tile a) (Footprint j) u v p in absurd (omega arith)
  one_item (Footprint i) (Group e k) u v p = let k : ◌≡◌ {A = ℕ} 2 0 = apart_kinds (Footprint i) (Group e k) u v p in absurd (omega arith)
  one_item (Footprint i) (Tile b) u v p = let k : ◌≡◌ {A = ℕ} 2 1 = apart_kinds (Footprint i) (Tile b) u v p in absurd (omega arith)

-- ---- places rise where squares do not fall

module _ {s t : ℕ} (h : s ≤ t) where
  pub group_before_next : (d : Direction) (l : ℕ) → key_row (encoded_item s (Group d l)) < key_row (encoded_item t (Group d (l + 1)))
  group_before_next d l = key_rises_number s t 0 (direction_no d * 64 + l) (direction_no d * 64 + (l + 1)) h (omega arith)

  pub group_before_tile : (d : Direction) (l a : ℕ) → InRange (Group d l) → key_row (encoded_item s (Group d l)) < key_row (encoded_item t (Tile a))
  group_before_tile d l a v = key_rises s t 0 1 (direction_no d * 64 + l) a h (omega arith) (small_item s (Group d l) v).number_lt

  pub tile_before_footprint : (a i : ℕ) → InRange (Tile a) → key_row (encoded_item s (Tile a)) < key_row (encoded_item t (Footprint i))
  tile_before_footprint a i v = key_rises s t 1 2 a i h (omega arith) (small_item s (Tile a) v).number_lt

-- a group or a tile against a footprint that was given: only the squares count
module _ (s d i : ℕ) (v : InRange (Footprint i)) where
  pub group_passed_law : (e : Direction) (l : ℕ) → InRange (Group e l) → (key_row (encoded_item s (Group e l)) ≤ key_row (encoded_item d (Footprint i))) ↔ (s ≤ d)
  group_passed_law e l u = key_passed s d 0 (direction_no e * 64 + l) i (omega arith) (small_item s (Group e l) u).number_lt v

  pub tile_passed : (a : ℕ) → InRange (Tile a) → (key_row (encoded_item s (Tile a)) ≤ key_row (encoded_item d (Footprint i))) ↔ (s ≤ d)
  tile_passed a u = key_passed s d 1 a i (omega arith) (small_item s (Tile a) u).number_lt v
