-- Groups: the four directions' rows, squares and lines of tiles, and rows that no register decides. Assumes nothing.
use mathlib.Core.Path.{◌≡◌, refl, sym, ap, ap₂, ◌∙◌}
use mathlib.Core.Bool.{Bool, true, false, cond, not, ◌||◌}
use mathlib.Core.List.{List, [], ◌∷◌, ◌++◌, map, map-append}
use Prim.Native.Nat.{ℕ, suc, ◌+◌, ◌-◌, ◌*◌, ◌/◌, ◌%◌, ◌≤◌, ◌<◌, min}
use native.Mathlib.Omega.{arith}
use lib.Dec.{leb, ltb, eqb}
use borrow.Author.Tests.{ltb-true, leb-true, ne_eqb}
use Rattle.laws.specs.Lines.{line}
use Rattle.rules.specs.Sizes.{column, column_of, row_of, tile_count}
use Rattle.rules.specs.Span.{at, cover, gap}
use Rattle.rules.specs.Distance.{square, point, tile_rect}
use Rattle.rules.specs.Front.{row, encoded}
use Rattle.rules.specs.Lines.{Line, row_line, column_line, group_line_at, group_line}
use Rattle.rules.specs.Walk.{exists, group_exists, group_tiles, group_gap, square_of, waiting_row, group_if, group_brings}
use Rattle.rules.specs.declared.Grid.{Grid}
use Rattle.rules.specs.declared.Point.{Point}
use Rattle.rules.specs.declared.Direction.{Direction}
use Rattle.rules.specs.declared.Direction.TheVariants.{Up, Right, Down, Left}
use Rattle.rules.specs.declared.Item.TheVariants.{Group, Tile}
use Rattle.rules.specs.declared.Three.{Three}
use Rattle.rules.proofs.GroupLines.{group_line_law, line_on_grid}
use Rattle.walk.specs.Fill.{Got, add_all, brought}
use Rattle.walk.specs.Groups.{Lies, item_rows}
use Rattle.walk.specs.Reading.{Placed}
use Rattle.walk.specs.declared.group.Tiles.{Tiles}
use Rattle.walk.proofs.Near.{columns}

-- ---- by direction: c and r are the column and the row of Tq

module _ (g : Grid) (q : Point) (d : Direction) (l c r : ℕ) (ec : c ≡ column g q.x) (er : r ≡ column g q.y) where
  pub exists_up : d ≡ Up → ltb (r + l) g.n ≡ group_exists g q d l
  unfolding group_exists exists
  exists_up e = rw (e, er)

  pub exists_right : d ≡ Right → ltb (c + l) g.n ≡ group_exists g q d l
  unfolding group_exists exists
  exists_right e = rw (e, ec)

  pub exists_down : d ≡ Down → leb l r ≡ group_exists g q d l
  unfolding group_exists exists
  exists_down e = rw (e, er)

  pub exists_left : d ≡ Left → leb l c ≡ group_exists g q d l
  unfolding group_exists exists
  exists_left e = rw (e, ec)

  pub gap_up : d ≡ Up → gap (at q.y) (cover g.side (r + l)) ≡ group_gap g q d l
  unfolding group_gap
  gap_up e = rw (e, er)

  pub gap_right : d ≡ Right → gap (at q.x) (cover g.side (c + l)) ≡ group_gap g q d l
  unfolding group_gap
  gap_right e = rw (e, ec)

  pub gap_down : d ≡ Down → gap (at q.y) (cover g.side (r - l)) ≡ group_gap g q d l
  unfolding group_gap
  gap_down e = rw (e, er)

  pub gap_left : d ≡ Left → gap (at q.x) (cover g.side (c - l)) ≡ group_gap g q d l
  unfolding group_gap
  gap_left e = rw (e, ec)

  module _ (a b : ℕ) where
    pub line_up : d ≡ Up → a ≡ c - l → b ≡ min (c + l) g.n → row_line g (r + l) a b ≡ group_line g q d l
    unfolding group_line group_line_at
    line_up e ea eb = rw (e, ea, eb, ec, er)

    pub line_right : d ≡ Right → a ≡ r + 1 - l → b ≡ min (r + l + 1) g.n → column_line g (c + l) a b ≡ group_line g q d l
    unfolding group_line group_line_at
    line_right e ea eb = rw (e, ea, eb, ec, er)

    pub line_down : d ≡ Down → a ≡ c + 1 - l → b ≡ min (c + l + 1) g.n → row_line g (r - l) a b ≡ group_line g q d l
    unfolding group_line group_line_at
    line_down e ea eb = rw (e, ea, eb, ec, er)

    pub line_left : d ≡ Left → a ≡ r - l → b ≡ min (r + l) g.n → column_line g (c - l) a b ≡ group_line g q d l
    unfolding group_line group_line_at
    line_left e ea eb = rw (e, ea, eb, ec, er)

  -- an existing group's row or column is on the grid
  module _ (h : group_exists g q d l ≡ true) where
    pub up_on : d ≡ Up → r + l < g.n
    up_on e = ltb-true (r + l) g.n (exists_up e ∙ h)

    pub right_on : d ≡ Right → c + l < g.n
    right_on e = ltb-true (c + l) g.n (exists_right e ∙ h)

    pub down_on : d ≡ Down → l ≤ r
    down_on e = leb-true l r (exists_down e ∙ h)

    pub left_on : d ≡ Left → l ≤ c
    left_on e = leb-true l c (exists_left e ∙ h)

pub lies_as : (l m : Line) (r : Tiles) → Lies l r → l ≡ m → Lies m r
lies_as l m r p e = rw e at p

-- ---- rows

module _ (g : Grid) (q : Point) (t : Three) where
  pub group_row : (d : Direction) (l s : ℕ) → s ≡ group_gap g q d l → t ≡ encoded (row (s * s) (Group d l)) → t ≡ waiting_row g [] q (Group d l)
  unfolding waiting_row square_of
  group_row d l s es et = et ∙ ap (λ (k : ℕ). encoded (row (k * k) (Group d l))) es

  pub tile_row : (tile dx dy : ℕ) → dx ≡ gap (at q.x) (cover g.side (tile % g.n)) → dy ≡ gap (at q.y) (cover g.side (tile / g.n))
      → t ≡ encoded (row (dx * dx + dy * dy) (Tile tile)) → t ≡ waiting_row g [] q (Tile tile)
  unfolding waiting_row square_of square point tile_rect column_of row_of
  tile_row tile dx dy ex ey et = et ∙ ap₂ (λ (a b : ℕ). encoded (row (a * a + b * b) (Tile tile))) ex ey

-- no register decides them
module _ (g : Grid) (reg : List ℕ) (q : Point) where
  tiles_alone : (l : List ℕ) → item_rows g q (map Tile l) ≡ map (waiting_row g reg q) (map Tile l)
  unfolding waiting_row square_of
  tiles_alone [] = refl
  tiles_alone (k ∷ l) = ap (λ (m : List Three). waiting_row g reg q (Tile k) ∷ m) (tiles_alone l)

  pub group_alone : (l : ℕ) (d : Direction) → item_rows g q (group_if g q l d) ≡ map (waiting_row g reg q) (group_if g q l d)
  unfolding group_if waiting_row square_of
  group_alone l d = go (group_exists g q d l)
    where
      go : (b : Bool) → item_rows g q (cond b (Group d l ∷ []) []) ≡ map (waiting_row g reg q) (cond b (Group d l ∷ []) [])
      go true = refl
      go false = refl

  pub brings_alone : (d : Direction) (l : ℕ) → item_rows g q (group_brings g q d l) ≡ map (waiting_row g reg q) (group_brings g q d l)
  unfolding group_brings
  brings_alone d l =
      map-append (waiting_row g [] q) (map Tile (group_tiles g q d l)) (group_if g q (l + 1) d)
      ∙ ap₂ (λ (x y : List Three). x ++ y) (tiles_alone (group_tiles g q d l)) (group_alone (l + 1) d)
      ∙ sym (map-append (waiting_row g reg q) (map Tile (group_tiles g q d l)) (group_if g q (l + 1) d))

-- ---- a line of tiles

module _ (g : Grid) (q : Point) where
  -- the tiles from one on, k of them
  abbrev pub tile_rows : ℕ → ℕ → ℕ → List Three
  tile_rows s d k = item_rows g q (map Tile (line s d k))

  pub tiles_next : (s d i many : ℕ) → i < many → tile_rows s d (many - i) ≡ waiting_row g [] q (Tile s) ∷ tile_rows (s + d) d (many - (i + 1))
  tiles_next s d i many h = let e : many - i ≡ suc (many - (i + 1)) = omega arith in rw e refl

  pub tiles_none : (s d i many : ℕ) → many ≤ i → tile_rows s d (many - i) ≡ []
  tiles_none s d i many h = let e : many - i ≡ 0 = omega arith in rw e refl

-- ---- what a group brings

module _ (g : Grid) (q : Point) (d : Direction) (l : ℕ) where
  pub group_yes : group_exists g q d l ≡ true → group_if g q l d ≡ Group d l ∷ []
  unfolding group_if
  group_yes e = rw e refl

  pub group_no : group_exists g q d l ≡ false → group_if g q l d ≡ []
  unfolding group_if
  group_no e = rw e refl

  module _ (ok : Placed g q) (e : group_exists g q d l ≡ true) (r : Tiles) (p : Lies (group_line g q d l) r) where
    pub lies_on : (j : ℕ) → j < r.many → r.start + j * r.apart < tile_count g
    lies_on j h =
        let o = columns g q ok in
        rw (p.start, p.apart) (line_on_grid g q d l o.0 o.1 e j (rw (← p.many) h))

    pub lies_tiles : line r.start r.apart r.many ≡ group_tiles g q d l
    lies_tiles = let o = columns g q ok in rw (p.start, p.apart, p.many) (sym (group_line_law g q d l o.0 o.1 e))

  pub group_brings_law : (got : Got) → (l ≡ 0 → ⊥) → group_exists g q d l ≡ true
      → add_all got (item_rows g q (map Tile (group_tiles g q d l)) ++ item_rows g q (group_if g q (l + 1) d))
      ≡ brought got (eqb l 0 || not (group_exists g q d l)) (item_rows g q (group_brings g q d l))
  unfolding group_brings
  group_brings_law got h e =
      rw (ne_eqb l 0 h, e) (ap (add_all got) (sym (map-append (waiting_row g [] q) (map Tile (group_tiles g q d l)) (group_if g q (l + 1) d))))
