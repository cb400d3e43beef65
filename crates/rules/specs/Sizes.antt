-- The grid, its limits, its tiles and its points: document 01, "Sizes and tables". Assumes nothing.
use Rattle.std.specs.Prelude.{Bool, ◌||◌, List, ℕ, ◌+◌, ◌*◌, ◌/◌, ◌%◌, leb, ltb}
use Rattle.laws.specs.Lists.{up_to}
use Rattle.rules.specs.declared.Grid.{Grid}
use Rattle.rules.specs.declared.Point.{Point}

-- n runs 1..64
abbrev pub most_tiles : ℕ
most_tiles = 64

-- side runs 1..16,384 cm
abbrev pub most_side : ℕ
most_side = 16384

-- a register has at most 65,536 footprints
abbrev pub most_footprints : ℕ
most_footprints = 65536

-- no run ends past 268,435,456 entries
abbrev pub most_entries : ℕ
most_entries = 268435456

-- a search's radius is at most 2,097,151 cm
abbrev pub most_radius : ℕ
most_radius = 2097151

-- n or side is outside its range
unfoldable pub bad_sizes : Grid → Bool
bad_sizes g = ltb g.n 1 || ltb most_tiles g.n || ltb g.side 1 || ltb most_side g.side

-- coordinates run 0..n×side−1
unfoldable pub off_grid : Grid → ℕ → Bool
off_grid g c = leb (g.n * g.side) c

unfoldable pub bad_point : Grid → Point → Bool
bad_point g q = off_grid g q.x || off_grid g q.y

-- the column of x, and the row of y likewise: divided by side, rounded down
unfoldable pub column : Grid → ℕ → ℕ
column g c = c / g.side

-- the number of the tile in a row and a column
unfoldable pub tile_no : Grid → ℕ → ℕ → ℕ
tile_no g row col = row * g.n + col

-- a tile's row and its column
unfoldable pub row_of : Grid → ℕ → ℕ
row_of g t = t / g.n

unfoldable pub column_of : Grid → ℕ → ℕ
column_of g t = t % g.n

-- how many tiles there are, and all of them
unfoldable pub tile_count : Grid → ℕ
tile_count g = g.n * g.n

unfoldable pub tiles : Grid → List ℕ
tiles g = up_to (tile_count g)

-- the tile that a point lies in: Tq
unfoldable pub tile_of : Grid → Point → ℕ
tile_of g q = tile_no g (column g q.y) (column g q.x)
