-- The groups, tiles and footprints around a point: which there are, their places in the order of a walk, what opens each, what each opens.
-- Assumes nothing.
use mathlib.Core.Path.{◌≡◌, sym, ◌∙◌}
use mathlib.Core.Bool.{true, false, cond}
use mathlib.Core.Option.{Option, none, some}
use mathlib.Core.List.{List, [], map}
use Prim.Native.Nat.{ℕ, zero, suc, ◌<◌}
use native.Mathlib.Nat.{le_trans, mul-le-mul, div-add-mod'}
use native.Mathlib.Omega.{arith}
use lib.Dec.{eqb}
use Rattle.laws.specs.Lists.{each}
use Rattle.rules.specs.Sizes.{bad_point, column, row_of, column_of, tile_no, tile_count, tile_of}
use Rattle.rules.specs.Classes.{report_tile}
use Rattle.rules.specs.Register.{count, rectangle}
use Rattle.rules.specs.Tables.{built_run}
use Rattle.rules.specs.Search.{allowed_runs}
use Rattle.rules.specs.Front.{encoded}
use Rattle.rules.specs.Walk.{group_exists, group_brings, square_of, waiting_row}
use Rattle.rules.specs.declared.Grid.{Grid}
use Rattle.rules.specs.declared.Point.{Point}
use Rattle.rules.specs.declared.Direction.{Direction}
use Rattle.rules.specs.declared.Item.{Item}
use Rattle.rules.specs.declared.Item.TheVariants.{Group, Tile, Footprint}
use Rattle.rules.proofs.Good.{GoodSizes, good_sizes, GoodRect, Accepted, few_footprints, good_footprint, OnGrid, on_grid}
use Rattle.rules.proofs.Report.{column_inside}
use Rattle.rules.proofs.Keys.{Small, key_row}
use Rattle.rules.proofs.Encoding.{InRange}
use Rattle.rules.proofs.Items.{small_item, one_item}
use Rattle.rules.proofs.Ring.{dir_of, lev_in, exists_lt}

module _ (g : Grid) (reg : List ℕ) (q : Point) where
  -- a register that a build accepts, and a point on the grid
  pub record Around : Type 0 where
    pub accepted : Accepted g reg
    pub on : OnGrid g q

  -- the place in the order of a walk
  abbrev pub key : Item → ℕ
  key z = key_row (waiting_row g reg q z)

  -- what there is: groups that exist, all tiles but the point's, all footprints
  abbrev pub Valid : Item → Type 0
  Valid (Group d l) = (0 < l) × (group_exists g q d l ≡ true)
  Valid (Tile t) = (t < tile_count g) × (t ≡ tile_of g q → ⊥)
  Valid (Footprint i) = i < count reg

  abbrev pub direction_in : ℕ → Direction
  direction_in t = dir_of (column g q.x) (column g q.y) (column_of g t) (row_of g t)

  abbrev pub level_in : ℕ → ℕ
  level_in t = lev_in (direction_in t) (column g q.x) (column g q.y) (column_of g t) (row_of g t)

  -- the group that a tile is in
  abbrev pub group_of : ℕ → Item
  group_of t = Group (direction_in t) (level_in t)

  -- the tile that reports a footprint
  abbrev pub tile_for : ℕ → ℕ
  tile_for i = report_tile g q (rectangle g reg i)

  -- what brings an item, if the start does not
  abbrev pub parent : Item → Option Item
  parent (Group d zero) = none
  parent (Group d (suc zero)) = none
  parent (Group d (suc (suc l))) = some (Group d (suc l))
  parent (Tile t) = some (group_of t)
  parent (Footprint i) = cond (eqb (tile_for i) (tile_of g q)) none (some (Tile (tile_for i)))

  -- what an item brings
  abbrev pub brings : Item → List Item
  brings (Group d l) = group_brings g q d l
  brings (Tile t) = map Footprint (each (built_run g reg) (allowed_runs g q t))
  brings (Footprint i) = []

-- items of one kind are told apart by their numbers
pub same_tile : (a b : ℕ) → Tile a ≡ Tile b → a ≡ b
same_tile a b e = cc

pub same_footprint : (a b : ℕ) → Footprint a ≡ Footprint b → a ≡ b
same_footprint a b e = cc

pub around : {g : Grid} {reg : List ℕ} {q : Point} → Accepted g reg → bad_point g q ≡ false → Around g reg q
around {g} {reg} {q} a on = record { accepted = a; on = on_grid g q on }

module _ {g : Grid} {reg : List ℕ} {q : Point} (S : Around g reg q) where
  pub sizes : GoodSizes g
  sizes = good_sizes g S.accepted.sizes

  pub good : (i : ℕ) → i < count reg → GoodRect g (rectangle g reg i)
  good i h = good_footprint g reg S.accepted i h

  pub column_lt : column g q.x < g.n
  column_lt = column_inside g sizes.side_pos q.x S.on.x_on

  pub row_lt : column g q.y < g.n
  row_lt = column_inside g sizes.side_pos q.y S.on.y_on

  -- a tile other than the point's lies off its column or row
  pub off_centre : (t : ℕ) → (t ≡ tile_of g q → ⊥) → column_of g t ≡ column g q.x → row_of g t ≡ column g q.y → ⊥
  unfolding tile_of tile_no column_of row_of
  off_centre t h a b = h (sym (div-add-mod' t g.n) ∙ rw (a, b))

  pub level_lt : (d : Direction) (l : ℕ) → group_exists g q d l ≡ true → l < g.n
  unfolding group_exists
  level_lt d l e = exists_lt g.n (column g q.x) (column g q.y) column_lt row_lt d l e

  pub in_range : (z : Item) → Valid g reg q z → InRange z
  unfolding tile_count
  in_range (Group d l) v = omega (arith, level_lt d l v.1, sizes.n_most)
  in_range (Tile t) v = le_trans v.0 (mul-le-mul sizes.n_most sizes.n_most)
  in_range (Footprint i) v = omega (arith, few_footprints g reg S.accepted)

  pub small : (z : Item) → Valid g reg q z → Small (waiting_row g reg q z)
  unfolding waiting_row encoded
  small z v = small_item (square_of g reg q z) z (in_range z v)

  pub one_key : (a b : Item) → Valid g reg q a → Valid g reg q b → key g reg q a ≡ key g reg q b → a ≡ b
  unfolding waiting_row encoded
  one_key a b u v e = one_item (square_of g reg q a) (square_of g reg q b) a b (in_range a u) (in_range b v) e

  pub key_pos : (z : Item) → Valid g reg q z → 0 < key g reg q z
  unfolding waiting_row encoded key_row
  key_pos (Group d l) v = omega (arith, v.0)
  key_pos (Tile t) v = omega arith
  key_pos (Footprint i) v = omega arith
