-- Classes, the nine sets of a search and the marks of a join: document 01, "Classes and tile types" and "Join". Assumes nothing.
use Rattle.std.specs.Prelude.{Bool, true, false, ◌&&◌, List, ℕ, ◌+◌, ◌*◌, ◌/◌, ◌%◌, eqb}
use Rattle.laws.specs.Lists.{up_to}
use Rattle.rules.specs.Sizes.{column, row_of, column_of, tile_no}
use Rattle.rules.specs.Span.{begins, ends, Place, place, gives, drawn, joined}
use Rattle.rules.specs.declared.Grid.{Grid}
use Rattle.rules.specs.declared.Point.{Point}
use Rattle.rules.specs.declared.Rect.{Rect}

abbrev pub bit : Bool → ℕ
bit true = 1
bit false = 0

-- 8×(x begin)+4×(x end)+2×(y begin)+(y end)
unfoldable pub class_no : Bool → Bool → Bool → Bool → ℕ
class_no xb xe yb ye = 8 * bit xb + 4 * bit xe + 2 * bit yb + bit ye

-- the bit of a class whose weight is w
unfoldable pub is_set : ℕ → ℕ → Bool
is_set class w = eqb (class / w % 2) 1

unfoldable pub classes : List ℕ
classes = up_to 16

-- the class of a rectangle in a tile
unfoldable pub class_of : Grid → ℕ → Rect → ℕ
class_of g t a =
    class_no (begins g.side (column_of g t) a.x) (ends g.side (column_of g t) a.x)
    (begins g.side (row_of g t) a.y) (ends g.side (row_of g t) a.y)

-- the nine sets: the classes that a tile gives, lying so in x and in y to the point's
unfoldable pub allowed : Place → Place → ℕ → Bool
allowed px py class = gives px (is_set class 8) (is_set class 4) && gives py (is_set class 2) (is_set class 1)

-- the class is allowed in tile t, for a search from q
unfoldable pub allowed_in : Grid → Point → ℕ → ℕ → Bool
allowed_in g q t class = allowed (place (column_of g t) (column g q.x)) (place (row_of g t) (column g q.y)) class

-- the marks: R's and S's class are joined, S's tile lying so in x and in y to R's
unfoldable pub marked : Place → Place → ℕ → ℕ → Bool
marked px py a b =
    joined px (is_set a 8) (is_set a 4) (is_set b 8) (is_set b 4) && joined py (is_set a 2) (is_set a 1) (is_set b 2) (is_set b 1)

-- R's class a in tile t and S's class b in tile u are joined
unfoldable pub marked_in : Grid → ℕ → ℕ → ℕ → ℕ → Bool
marked_in g t u a b = marked (place (column_of g u) (column_of g t)) (place (row_of g u) (row_of g t)) a b

-- the reporting tile: per dimension, the point's column or row drawn into the rectangle's span
unfoldable pub report_tile : Grid → Point → Rect → ℕ
report_tile g q a = tile_no g (drawn g.side (column g q.y) a.y) (drawn g.side (column g q.x) a.x)
