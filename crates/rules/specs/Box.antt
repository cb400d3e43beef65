-- The box of a search: the columns and the rows that lie within r of the point, and the tiles of one of its rows. What lies outside it is
-- not visited: a law. Assumes nothing.
use Rattle.std.specs.Prelude.{List, ℕ, ◌+◌, ◌-◌, min}
use Rattle.laws.specs.Lists.{from}
use Rattle.rules.specs.Sizes.{column, tile_no}
use Rattle.rules.specs.declared.Grid.{Grid}
use Rattle.rules.specs.declared.Point.{Point}

-- the first column within r of a coordinate, and the last
unfoldable pub first_column : Grid → ℕ → ℕ → ℕ
first_column g r x = column g (x - r)

unfoldable pub last_column : Grid → ℕ → ℕ → ℕ
last_column g r x = min (column g (x + r)) (g.n - 1)

-- how many they are
unfoldable pub columns_near : Grid → ℕ → ℕ → ℕ
columns_near g r x = last_column g r x + 1 - first_column g r x

-- the tiles of a row of the box
unfoldable pub box_row : Grid → Point → ℕ → ℕ → List ℕ
box_row g q r row = from (tile_no g row (first_column g r q.x)) (columns_near g r q.x)
