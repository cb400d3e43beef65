-- Tiles by their row and column: the class there, and coordinates whose squares fit. Assumes nothing.
use Rattle.std.specs.Prelude.{ℕ, ◌≤◌}
use Rattle.rules.specs.Span.{begins, ends}
use Rattle.rules.specs.Classes.{class_no}
use Rattle.rules.specs.declared.Grid.{Grid}
use Rattle.rules.specs.declared.Rect.{Rect}

-- the class of a rectangle in the tile of a row and a column
unfoldable pub class_at : Grid → ℕ → ℕ → Rect → ℕ
class_at g row col a =
    class_no (begins g.side col a.x) (ends g.side col a.x) (begins g.side row a.y) (ends g.side row a.y)

-- it begins below 64×16,384, past which no coordinate lies
pub record Near (a : Rect) : Type 0 where
  pub x : a.x.lo ≤ 1048576
  pub y : a.y.lo ≤ 1048576
