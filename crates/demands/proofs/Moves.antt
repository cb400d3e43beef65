-- What a row taken off the front does on built tables, any tail behind the entries: a group or a tile brings what it opens, a footprint is
-- handed out, and nothing is damage. Assumes nothing.
use mathlib.Core.Path.{◌≡◌, ◌∙◌}
use mathlib.Core.List.{List, map, Memᴰ}
use Prim.Native.Nat.{ℕ, ◌+◌, ◌*◌, ◌≤◌, ◌<◌}
use native.Mathlib.Omega.{arith}
use lib.Arith.{digits_lt}
use borrow.Author.Tests.{ne_eqb, lt-leb}
use Rattle.laws.specs.Lists.{each}
use Rattle.laws.proofs.Lists.{each_on}
use Rattle.laws.proofs.Members.{mem_filter}
use Rattle.laws.proofs.Ranges.{mem_from}
use Rattle.rules.specs.Sizes.{tile_no, tile_count, tile_of}
use Rattle.rules.specs.Tables.{Tables, tile_runs, runs, run_at, built_run, built_tables}
use Rattle.rules.specs.Search.{allowed_run, allowed_runs}
use Rattle.rules.specs.Front.{row}
use Rattle.rules.specs.Walk.{bring, hand, row_writes, tile_brings, square_of, waiting_row, item_move, move}
use Rattle.rules.specs.declared.Grid.{Grid}
use Rattle.rules.specs.declared.Point.{Point}
use Rattle.rules.specs.declared.Direction.{Direction}
use Rattle.rules.specs.declared.Item.{Item}
use Rattle.rules.specs.declared.Item.TheVariants.{Group, Tile, Footprint}
use Rattle.rules.proofs.Good.{may_be_named}
use Rattle.rules.proofs.Built.{built_run_law, no_damage_in}
use Rattle.rules.proofs.Encoding.{decoded_encoded}
use Rattle.demands.proofs.Around.{Around, Valid, brings, in_range, column_lt, row_lt}

module _ {g : Grid} {reg : List ℕ} {q : Point} (S : Around g reg q) (tail : List ℕ) where
  abbrev T : Tables
  T = built_tables g reg tail

  pub run_of_tile : (t k : ℕ) → t < tile_count g → Memᴰ k (tile_runs t) → k < runs g
  unfolding tile_runs runs
  run_of_tile t k h m = let l : (16 * t ≤ k) × (k < 16 * t + 16) = mem_from (16 * t) 16 m in omega arith

  run_allowed : (t k : ℕ) → t < tile_count g → Memᴰ k (allowed_runs g q t) → k < runs g
  unfolding allowed_runs
  run_allowed t k h m = run_of_tile t k h (mem_filter (allowed_run g q) (tile_runs t) m).0

  -- a tile brings the footprints of its built runs
  pub tile_brings_law : (t : ℕ) → t < tile_count g → each (run_at T) (allowed_runs g q t) ≡ each (built_run g reg) (allowed_runs g q t)
  tile_brings_law t h = each_on (run_at T) (built_run g reg) (allowed_runs g q t) (λ k m. built_run_law g reg tail k (run_allowed t k h m))

  -- the point's own tile is one
  pub own_tile_lt : tile_of g q < tile_count g
  unfolding tile_of tile_no tile_count
  own_tile_lt = digits_lt (row_lt S) (column_lt S)

  read_item : (z : Item) → Valid g reg q z → move g T q (waiting_row g reg q z) ≡ item_move g T q (square_of g reg q z) z
  unfolding move waiting_row
  read_item z v = rw (decoded_encoded (row (square_of g reg q z) z) (in_range S z v))

  pub group_moves : (d : Direction) (l : ℕ) → Valid g reg q (Group d l)
      → move g T q (waiting_row g reg q (Group d l)) ≡ bring (map (waiting_row g reg q) (brings g reg q (Group d l)))
  group_moves d l v = read_item (Group d l) v ∙ opened
    where
      opened : item_move g T q (square_of g reg q (Group d l)) (Group d l) ≡ bring (map (waiting_row g reg q) (brings g reg q (Group d l)))
      opened = unfold item_move built_tables in rw (ne_eqb l 0 (omega (arith, v.0)), v.1)

  pub tile_moves : (t : ℕ) → Valid g reg q (Tile t)
      → move g T q (waiting_row g reg q (Tile t)) ≡ bring (map (waiting_row g reg q) (brings g reg q (Tile t)))
  tile_moves t v = read_item (Tile t) v ∙ opened
    where
      opened : item_move g T q (square_of g reg q (Tile t)) (Tile t) ≡ bring (map (waiting_row g reg q) (brings g reg q (Tile t)))
      opened = unfold item_move tile_brings built_tables in
          rw (lt-leb (tile_count g) t v.0, no_damage_in g reg S.accepted tail (allowed_runs g q t) (λ k m. run_allowed t k v.0 m), tile_brings_law t v.0)

  pub footprint_moves : (i : ℕ) → Valid g reg q (Footprint i)
      → move g T q (waiting_row g reg q (Footprint i)) ≡ hand (row_writes g reg q i (square_of g reg q (Footprint i)))
  footprint_moves i v = read_item (Footprint i) v ∙ opened
    where
      opened : item_move g T q (square_of g reg q (Footprint i)) (Footprint i) ≡ hand (row_writes g reg q i (square_of g reg q (Footprint i)))
      opened = unfold item_move built_tables in rw (may_be_named g reg S.accepted i v)
