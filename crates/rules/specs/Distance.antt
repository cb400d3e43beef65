-- Distances in two dimensions: document 01, "Sizes and tables". Assumes nothing.
use Rattle.std.specs.Prelude.{Bool, ◌&&◌, ℕ, ◌+◌, ◌*◌, leb}
use Rattle.rules.specs.Sizes.{row_of, column_of}
use Rattle.rules.specs.Span.{at, cover, gap, meets}
use Rattle.rules.specs.declared.Grid.{Grid}
use Rattle.rules.specs.declared.Point.{Point}
use Rattle.rules.specs.declared.Rect.{Rect}

abbrev pub sq : ℕ → ℕ
sq a = a * a

-- the sum of the two gaps' squares
unfoldable pub square : Rect → Rect → ℕ
square a b = sq (gap a.x b.x) + sq (gap a.y b.y)

-- within r: square ≤ r×r
unfoldable pub within : ℕ → Rect → Rect → Bool
within r a b = leb (square a b) (sq r)

-- a point is a rectangle of one
unfoldable pub point : Point → Rect
point q = record { x = at q.x; y = at q.y }

-- the coordinate points of a tile
unfoldable pub tile_rect : Grid → ℕ → Rect
tile_rect g t = record { x = cover g.side (column_of g t); y = cover g.side (row_of g t) }

-- the two share a coordinate point
unfoldable pub shares : Rect → Rect → Bool
shares a b = meets a.x b.x && meets a.y b.y
