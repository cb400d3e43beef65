-- On an accepted grid, around an accepted point, the groups that exist and the tiles are rows in range, and each row that waits is read
-- as what it stands for. Assumes nothing.
use mathlib.Core.Path.{◌≡◌}
use mathlib.Core.Bool.{true, false}
use mathlib.Core.List.{List}
use Prim.Native.Nat.{ℕ, ◌<◌}
use native.Mathlib.Omega.{arith}
use Rattle.std.specs.Prelude.{Some}
use Rattle.laws.proofs.Numbers.{square_rises}
use Rattle.rules.specs.Sizes.{most_tiles, bad_sizes, bad_point, column, tile_count}
use Rattle.rules.specs.Front.{row, decoded}
use Rattle.rules.specs.Walk.{group_exists, square_of, waiting_row}
use Rattle.rules.specs.declared.Grid.{Grid}
use Rattle.rules.specs.declared.Point.{Point}
use Rattle.rules.specs.declared.Direction.{Direction}
use Rattle.rules.specs.declared.Item.{Item}
use Rattle.rules.specs.declared.Item.TheVariants.{Group, Tile}
use Rattle.rules.proofs.Good.{good_sizes}
use Rattle.rules.proofs.Ring.{exists_lt}
use Rattle.rules.proofs.Encoding.{InRange, decoded_encoded}
use Rattle.rules.proofs.GroupLines.{columns_on_grid}

-- a group that exists has a level below n
pub group_below : (g : Grid) (q : Point) (d : Direction) (l : ℕ) → bad_point g q ≡ false → group_exists g q d l ≡ true → l < g.n
unfolding group_exists
group_below g q d l on e = let p = columns_on_grid g q on in exists_lt g.n (column g q.x) (column g q.y) p.0 p.1 d l e

pub group_in_range : (g : Grid) (q : Point) (d : Direction) (l : ℕ) → bad_sizes g ≡ false → bad_point g q ≡ false → group_exists g q d l ≡ true → InRange (Group d l)
group_in_range g q d l sized on e = let s = good_sizes g sized in omega (arith, group_below g q d l on e)

pub tile_in_range : (g : Grid) (t : ℕ) → bad_sizes g ≡ false → t < tile_count g → InRange (Tile t)
unfolding tile_count
tile_in_range g t sized h = let s = good_sizes g sized in omega (arith, square_rises {a = g.n} {b = most_tiles} s.n_most)

-- what comes to wait is read again when it is taken
pub waiting_read : (g : Grid) (reg : List ℕ) (q : Point) (i : Item) → InRange i → decoded (waiting_row g reg q i) ≡ Some (row (square_of g reg q i) i)
unfolding waiting_row
waiting_read g reg q i h = decoded_encoded (row (square_of g reg q i) i) h
