-- What is read of a tile by its row and column, of a row of the box by its columns, and of a search by the box's rows. Assumes nothing.
use mathlib.Core.Path.{◌≡◌, refl, sym, ap, ap₂, ◌∙◌}
use mathlib.Core.Bool.{Bool, true, false}
use mathlib.Core.List.{List, [], ◌∷◌, ◌++◌, append-nil}
use Prim.Native.Nat.{ℕ, zero, suc, ◌+◌, ◌-◌, ◌*◌, ◌/◌, ◌%◌, ◌<◌}
use native.Mathlib.Omega.{arith}
use Rattle.std.specs.Prelude.{Option, Some}
use Rattle.laws.specs.Lists.{filter, from, each}
use Rattle.laws.proofs.Lists.{filter_append, each_append}
use Rattle.rules.specs.Sizes.{column, tile_no}
use Rattle.rules.specs.Span.{cover, place}
use Rattle.rules.specs.Distance.{within, point}
use Rattle.rules.specs.Classes.{allowed, allowed_in}
use Rattle.rules.specs.Tables.{Tables, good_runs}
use Rattle.rules.specs.Search.{allowed_run, allowed_runs, visits, read_runs}
use Rattle.rules.specs.Box.{first_column, last_column, columns_near, box_row}
use Rattle.rules.specs.declared.Grid.{Grid}
use Rattle.rules.specs.declared.Point.{Point}
use Rattle.rules.specs.declared.Rect.{Rect}
use Rattle.rules.specs.declared.Span.{Span}
use Rattle.rules.proofs.Good.{good_sizes, on_grid}
use Rattle.rules.proofs.Report.{column_again, row_again}
use Rattle.rules.proofs.Box.{first_last, last_inside, visits_at, visited_box}
use Rattle.grid.specs.Places.{is_on}
use Rattle.search.specs.Reading.{tile_most, Placed, Allows, runs_in, JudgedRuns}
use Rattle.search.proofs.Left.{left_all}
use Rattle.search.proofs.Pieces.{PiecesLeft, pieces_all}

-- ---- one tile

module _ (g : Grid) (q : Point) (r : ℕ) (ok : Placed g q) (row col : ℕ) (inside : col < g.n) where
  -- whether it is visited, by the spans that were compared
  is_visited : (x y : Span) → x ≡ cover g.side col → y ≡ cover g.side row → (p : Rect) → p ≡ point q
      → (b : Bool) → b ≡ within r p (record { x = x; y = y }) → visits g q r (tile_no g row col) ≡ b
  is_visited x y e f p k b h =
      visits_at g (good_sizes g ok.sizes) q r row col inside
      ∙ ap₂ (λ (s u : Span). within r (point q) (record { x = s; y = u })) (sym e) (sym f)
      ∙ ap (λ (a : Rect). within r a (record { x = x; y = y })) (sym k) ∙ sym h

  module _ (t : Tables) (x y : Span) (e : x ≡ cover g.side col) (f : y ≡ cover g.side row)
      (p : Rect) (k : p ≡ point q) (b : Bool) (h : b ≡ within r p (record { x = x; y = y })) where
    -- a tile that is too far is not read
    pub tile_far : b ≡ false → (c : ℕ) (lent : List ℕ) → JudgedRuns g t q r (runs_in g q r (tile_no g row col ∷ [])) tile_most c lent (Some c) lent
    unfolding runs_in good_runs
    tile_far d c lent =
        rw (is_visited x y e f p k b h ∙ d) (record { left = left_all _ _ c lent; few = omega arith })

    -- of one that is near the allowed classes are
    pub tile_near : b ≡ true → (c : ℕ) (lent₀ : List ℕ) (z : Option ℕ) (lent : List ℕ) (tile : ℕ) → tile ≡ tile_no g row col
        → JudgedRuns g t q r (allowed_runs g q tile) tile_most c lent₀ z lent
        → JudgedRuns g t q r (runs_in g q r (tile_no g row col ∷ [])) tile_most c lent₀ z lent
    unfolding runs_in
    tile_near d c lent₀ z lent tile same j =
        rw (is_visited x y e f p k b h ∙ d, append-nil (allowed_runs g q (tile_no g row col))) (rw same at j)

  -- the mask for its place has its allowed classes
  pub mask_allows : (mask qcol qrow : ℕ) → qcol ≡ column g q.x → qrow ≡ column g q.y
      → ((class : ℕ) → class < 16 → is_on mask class ≡ allowed (place col qcol) (place row qrow) class)
      → (tile : ℕ) → tile ≡ tile_no g row col → Allows g q tile mask
  unfolding allowed_run allowed_in
  mask_allows mask qcol qrow ex ey m tile same = record {
    rule = λ class h.
        let pos = (good_sizes g ok.sizes).side_pos in
        let d : (16 * tile + class) / 16 ≡ tile_no g row col = omega arith in
        let k : (16 * tile + class) % 16 ≡ class = omega arith in
        rw (d, k, column_again g pos row col inside, row_again g pos row col inside, ← ex, ← ey) (m class h);
  }

-- ---- tiles one behind the other

module _ (g : Grid) (q : Point) (r : ℕ) where
  runs_in_append : (k l : List ℕ) → runs_in g q r (k ++ l) ≡ runs_in g q r k ++ runs_in g q r l
  unfolding runs_in
  runs_in_append k l =
      ap (each (allowed_runs g q)) (filter_append (visits g q r) k l) ∙ each_append (allowed_runs g q) (filter (visits g q r) k) (filter (visits g q r) l)

  -- a row of the box, column by column
  abbrev pub column_runs : ℕ → ℕ → List ℕ
  column_runs row col = runs_in g q r (tile_no g row col ∷ [])

  by_columns : (row col m : ℕ) → runs_in g q r (from (tile_no g row col) m) ≡ each (column_runs row) (from col m)
  unfolding runs_in tile_no
  by_columns row col zero = refl
  by_columns row col (suc m) =
      let e : suc (row * g.n + col) ≡ row * g.n + suc col = omega arith in
      runs_in_append ((row * g.n + col) ∷ []) (from (suc (row * g.n + col)) m)
      ∙ ap (λ (l : List ℕ). column_runs row col ++ l) (ap (λ (k : ℕ). runs_in g q r (from k m)) e ∙ by_columns row (suc col) m)

  pub row_is : (row : ℕ) → runs_in g q r (box_row g q r row) ≡ each (column_runs row) (from (first_column g r q.x) (last_column g r q.x + 1 - first_column g r q.x))
  unfolding box_row columns_near
  row_is row = by_columns row (first_column g r q.x) (last_column g r q.x + 1 - first_column g r q.x)

  -- a search, row by row of its box
  abbrev pub row_runs : ℕ → List ℕ
  row_runs row = runs_in g q r (box_row g q r row)

  by_rows : (l : List ℕ) → each (allowed_runs g q) (each (λ row. filter (visits g q r) (box_row g q r row)) l) ≡ each row_runs l
  unfolding runs_in
  by_rows [] = refl
  by_rows (row ∷ l) =
      each_append (allowed_runs g q) (filter (visits g q r) (box_row g q r row)) (each (λ row. filter (visits g q r) (box_row g q r row)) l)
      ∙ ap (λ (k : List ℕ). row_runs row ++ k) (by_rows l)

  pub box_is : Placed g q → read_runs g q r ≡ each row_runs (from (first_column g r q.y) (last_column g r q.y + 1 - first_column g r q.y))
  unfolding read_runs columns_near
  box_is ok =
      ap (each (allowed_runs g q)) (visited_box g (good_sizes g ok.sizes) q r (on_grid g q ok.point))
      ∙ by_rows (from (first_column g r q.y) (columns_near g r q.y))

-- ---- the two loops begin

module _ {g : Grid} {t : Tables} {q : Point} {r most c : ℕ} {lent : List ℕ} {first last : ℕ} (ok : Placed g q) where
  pub row_all : (row : ℕ) → first ≡ first_column g r q.x → last ≡ last_column g r q.x
      → PiecesLeft g t q r (runs_in g q r (box_row g q r row)) (column_runs g q r row) most c lent first last lent c first
  row_all row e f =
      let s = good_sizes g ok.sizes in
      let on = (on_grid g q ok.point).x_on in
      let a = first_last g s r q.x on in
      let b = last_inside g s r q.x on in
      pieces_all (row_is g q r row ∙ ap₂ (λ (m n : ℕ). each (column_runs g q r row) (from m (n + 1 - m))) (sym e) (sym f)) (omega arith) (omega arith) s.n_most

  pub box_all : first ≡ first_column g r q.y → last ≡ last_column g r q.y
      → PiecesLeft g t q r (read_runs g q r) (row_runs g q r) most c lent first last lent c first
  box_all e f =
      let s = good_sizes g ok.sizes in
      let on = (on_grid g q ok.point).y_on in
      let a = first_last g s r q.y on in
      let b = last_inside g s r q.y on in
      pieces_all (box_is g q r ok ∙ ap₂ (λ (m n : ℕ). each (row_runs g q r) (from m (n + 1 - m))) (sym e) (sym f)) (omega arith) (omega arith) s.n_most
