-- The box of a search: a tile outside it is farther than r, so the visited tiles are those of its rows and columns. Assumes nothing.
use mathlib.Core.Path.{◌≡◌, sym, ◌∙◌}
use mathlib.Core.Bool.{true}
use Prim.Native.Nat.{ℕ, suc, ◌+◌, ◌-◌, ◌*◌, ◌/◌, ◌≤◌, ◌<◌}
use native.Mathlib.Nat.{div-lt_iff_lt-mul, le-div_iff_mul-le}
use native.Mathlib.Omega.{arith}
use borrow.Author.Tests.{leb-true}
use Rattle.laws.specs.Lists.{filter, from, each}
use Rattle.laws.proofs.Boxes.{box}
use Rattle.laws.proofs.Numbers.{square_back, div_rises}
use Rattle.rules.specs.Sizes.{column, tile_no, tile_count, tiles}
use Rattle.rules.specs.Span.{at, cover, gap}
use Rattle.rules.specs.Distance.{sq, within, square, point, tile_rect}
use Rattle.rules.specs.Search.{visits, visited}
use Rattle.rules.specs.Box.{first_column, last_column, columns_near, box_row}
use Rattle.rules.specs.declared.Grid.{Grid}
use Rattle.rules.specs.declared.Point.{Point}
use Rattle.rules.proofs.Good.{GoodSizes, OnGrid}
use Rattle.rules.proofs.Report.{column_again, row_again}

-- ---- one dimension: the columns within r of a coordinate

module _ (g : Grid) (ok : GoodSizes g) (r x : ℕ) where
  -- a column within r is one of them
  pub near_column : (c : ℕ) → c < g.n → gap (at x) (cover g.side c) ≤ r → (first_column g r x ≤ c) × (c ≤ last_column g r x)
  unfolding first_column last_column column gap cover
  near_column c h k =
      let pos = ok.side_pos in
      let a : (x - r) / g.side < suc c = (div-lt_iff_lt-mul {x = x - r} {y = suc c} pos).1 (omega arith) in
      let b : c ≤ (x + r) / g.side = (le-div_iff_mul-le {x = c} {y = x + r} pos).1 (omega arith) in
      (omega arith, omega arith)

  module _ (on : x < g.n * g.side) where
    pub first_last : first_column g r x ≤ last_column g r x
    unfolding first_column last_column column
    first_last =
        let pos = ok.side_pos in
        let a : (x - r) / g.side ≤ x / g.side = div_rises pos (omega arith) in
        let b : x / g.side ≤ (x + r) / g.side = div_rises pos (omega arith) in
        let d : x / g.side < g.n = (div-lt_iff_lt-mul pos).1 on in
        omega arith

    pub last_inside : last_column g r x < g.n
    unfolding last_column
    last_inside = let p = ok.n_pos in omega arith

-- ---- two dimensions

module _ (g : Grid) (ok : GoodSizes g) (q : Point) (r : ℕ) where
  -- whether a tile is visited, by its row and its column
  pub visits_at : (row col : ℕ) → col < g.n
      → visits g q r (tile_no g row col) ≡ within r (point q) (record { x = cover g.side col; y = cover g.side row })
  unfolding visits tile_rect
  visits_at row col h = rw (column_again g ok.side_pos row col h, row_again g ok.side_pos row col h)

  -- a tile is visited only inside the box
  pub in_box_law : (row col : ℕ) → row < g.n → col < g.n → visits g q r (tile_no g row col) ≡ true
      → (first_column g r q.y ≤ row) × (row ≤ last_column g r q.y) × (first_column g r q.x ≤ col) × (col ≤ last_column g r q.x)
  unfolding within square point
  in_box_law row col hr hc e =
      let gapx = gap (at q.x) (cover g.side col) in
      let gapy = gap (at q.y) (cover g.side row) in
      let s : sq gapx + sq gapy ≤ sq r = leb-true _ _ (sym (visits_at row col hc) ∙ e) in
      let gx : gap (at q.x) (cover g.side col) ≤ r = square_back (omega arith) in
      let gy : gap (at q.y) (cover g.side row) ≤ r = square_back (omega arith) in
      let cx = near_column g ok r q.x col hc gx in
      let cy = near_column g ok r q.y row hr gy in
      (cy.0, cy.1, cx.0, cx.1)

  -- the visited tiles, row by row
  pub visited_box : OnGrid g q
      → visited g q r ≡ each (λ row. filter (visits g q r) (box_row g q r row)) (from (first_column g r q.y) (columns_near g r q.y))
  unfolding visited tiles tile_count tile_no box_row columns_near
  visited_box on =
      let fx = first_last g ok r q.x on.x_on in
      let fy = first_last g ok r q.y on.y_on in
      let lx = last_inside g ok r q.x on.x_on in
      let ly = last_inside g ok r q.y on.y_on in
      box (visits g q r) g.n g.n
      (first_column g r q.y) (last_column g r q.y + 1 - first_column g r q.y) (g.n - 1 - last_column g r q.y)
      (first_column g r q.x) (last_column g r q.x + 1 - first_column g r q.x) (g.n - 1 - last_column g r q.x)
      (omega arith) (omega arith)
      (λ row col hr hc e. let w = in_box_law row col hr hc e in (w.0, omega arith, w.2, omega arith))
