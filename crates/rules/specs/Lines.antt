-- The tiles of a group as a line of tile numbers. Assumes nothing.
use Rattle.std.specs.Prelude.{List, ℕ, ◌+◌, ◌-◌, min}
use Rattle.laws.specs.Lines.{line}
use Rattle.rules.specs.Sizes.{column, tile_no}
use Rattle.rules.specs.declared.Grid.{Grid}
use Rattle.rules.specs.declared.Point.{Point}
use Rattle.rules.specs.declared.Direction.{Direction}
use Rattle.rules.specs.declared.Direction.TheVariants.{Up, Right, Down, Left}

-- where the numbers begin, how far apart they are, and how many there are
pub record Line : Type 0 where
  pub start : ℕ
  pub apart : ℕ
  pub many : ℕ

abbrev pub line_of : Line → List ℕ
line_of l = line l.start l.apart l.many

-- row r, columns a..b−1
unfoldable pub row_line : Grid → ℕ → ℕ → ℕ → Line
row_line g r a b = record { start = tile_no g r a; apart = 1; many = b - a }

-- column c, rows a..b−1
unfoldable pub column_line : Grid → ℕ → ℕ → ℕ → Line
column_line g c a b = record { start = tile_no g a c; apart = g.n; many = b - a }

-- the tiles of an existing group, c and r being the column and the row of Tq and l the level
unfoldable pub group_line_at : Grid → ℕ → ℕ → Direction → ℕ → Line
group_line_at g c r Up l = row_line g (r + l) (c - l) (min (c + l) g.n)
group_line_at g c r Right l = column_line g (c + l) (r + 1 - l) (min (r + l + 1) g.n)
group_line_at g c r Down l = row_line g (r - l) (c + 1 - l) (min (c + l + 1) g.n)
group_line_at g c r Left l = column_line g (c - l) (r - l) (min (r + l) g.n)

unfoldable pub group_line : Grid → Point → Direction → ℕ → Line
group_line g q d l = group_line_at g (column g q.x) (column g q.y) d l
