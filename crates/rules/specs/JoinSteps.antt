-- What a join's loops run over and what they skip: the nine positions of S's tile around R's, and boxes around the footprints of a run.
-- Document 01, "Join". Assumes nothing.
use Rattle.std.specs.Prelude.{Bool, ◌&&◌, List, [], ◌∷◌, ℕ, ◌+◌, ◌-◌, ◌/◌, ◌%◌, max, min, leb}
use Rattle.rules.specs.Sizes.{tile_no, row_of, column_of}
use Rattle.rules.specs.Span.{span}
use Rattle.rules.specs.Register.{rectangle}
use Rattle.rules.specs.declared.Grid.{Grid}
use Rattle.rules.specs.declared.Rect.{Rect}
use Rattle.rules.specs.declared.Span.{Span}

-- ---- the nine positions: p is 3×(dy+1)+(dx+1), so p/3 is dy+1 and p%3 is dx+1

-- the column or row at offset d−1 from c is one of n
unfoldable pub reaches : ℕ → ℕ → ℕ → Bool
reaches n c d = leb 1 (c + d) && leb (c + d) n

-- S's tile at position p from R's tile t is on the grid
unfoldable pub has_tile : Grid → ℕ → ℕ → Bool
has_tile g t p = reaches g.n (row_of g t) (p / 3) && reaches g.n (column_of g t) (p % 3)

-- and its number
unfoldable pub tile_at : Grid → ℕ → ℕ → ℕ
tile_at g t p = tile_no g (row_of g t + p / 3 - 1) (column_of g t + p % 3 - 1)

-- ---- boxes

-- s lies in b
unfoldable pub in_span : Span → Span → Bool
in_span b s = leb b.lo s.lo && leb s.hi b.hi

-- rectangle a lies in box b
unfoldable pub in_box : Rect → Rect → Bool
in_box b a = in_span b.x a.x && in_span b.y a.y

-- the least span around two
unfoldable pub around_span : Span → Span → Span
around_span a b = span (min a.lo b.lo) (max a.hi b.hi)

-- the least box around two rectangles
unfoldable pub around : Rect → Rect → Rect
around a b = record { x = around_span a.x b.x; y = around_span a.y b.y }

-- a box, grown around the footprints of a list one after the other
unfoldable pub boxed : Grid → List ℕ → Rect → List ℕ → Rect
boxed g reg b [] = b
boxed g reg b (i ∷ l) = boxed g reg (around b (rectangle g reg i)) l
