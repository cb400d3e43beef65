-- The tiles that a rectangle touches, by columns and rows, and its runs there. Assumes nothing.
use Rattle.std.specs.Prelude.{Bool, List, ◌&&◌, ℕ, ◌+◌, ◌-◌, ◌*◌, ◌/◌, ◌%◌, ◌≤◌, ◌<◌, ltb, leb, eqb}
use Rattle.rules.specs.Sizes.{column}
use Rattle.rules.specs.Classes.{class_no}
use Rattle.rules.specs.Register.{count, rectangle}
use Rattle.rules.specs.declared.Grid.{Grid}
use Rattle.rules.specs.declared.Rect.{Rect}
use Rattle.index.specs.declared.touched.Tiles.{Tiles}

-- the columns and rows of a rectangle
abbrev pub tiles_of : Grid → Rect → Tiles
tiles_of g a = record {
  c0 = column g a.x.lo;
  r0 = column g a.y.lo;
  c1 = column g a.x.hi;
  r1 = column g a.y.hi;
}

-- the class in the tile of row r and column c
unfoldable pub class_in : Tiles → ℕ → ℕ → ℕ
class_in s r c = class_no (ltb s.c0 c) (ltb c s.c1) (ltb s.r0 r) (ltb r s.r1)

-- the run there
abbrev pub run_in : ℕ → Tiles → ℕ → ℕ → ℕ
run_in n s r c = 16 * (r * n + c) + class_in s r c

-- whether run k is one of these: its tile is touched, and has the run's class
unfoldable pub in_run : ℕ → Tiles → ℕ → Bool
in_run n s k =
    (leb s.c0 (k / 16 % n) && leb (k / 16 % n) s.c1) && (leb s.r0 (k / 16 / n) && leb (k / 16 / n) s.r1)
    && eqb (class_in s (k / 16 / n) (k / 16 % n)) (k % 16)

-- how many tiles are touched
abbrev pub area : Tiles → ℕ
area s = (s.r1 - s.r0 + 1) * (s.c1 - s.c0 + 1)

-- on the grid of n by n tiles, whose runs have their place among m numbers
pub record Within (n : ℕ) (s : Tiles) (m : ℕ) : Type 0 where
  pub small : n ≤ 64
  pub cols : s.c0 ≤ s.c1
  pub col : s.c1 < n
  pub rows : s.r0 ≤ s.r1
  pub row : s.r1 < n
  pub room : 16 * (n * n) ≤ m

-- every footprint touches tiles of the grid, whose runs have their place among m numbers
abbrev pub Lies : Grid → List ℕ → ℕ → Type 0
Lies g reg m = (i : ℕ) → i < count reg → Within g.n (tiles_of g (rectangle g reg i)) m
