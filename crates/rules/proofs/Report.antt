-- Two dimensions: a rectangle is given by exactly its reporting tile, in exactly its reporting run, and that tile is no farther than it.
-- Assumes nothing.
use mathlib.Core.Path.{◌≡◌, refl, sym, ap, ap₂, ◌∙◌}
use mathlib.Core.Bool.{Bool, true, ◌&&◌}
use Prim.Native.Nat.{ℕ, ◌+◌, ◌*◌, ◌/◌, ◌%◌, ◌≤◌, ◌<◌}
use native.Mathlib.Nat.{div-add-mod', div-lt_iff_lt-mul, add-le-add}
use native.Mathlib.Omega.{arith}
use lib.Dec.{eqb}
use lib.Arith.{digits_div, digits_mod, digits_lt}
use borrow.Author.Tests.{eqb-true, eq-eqb, le-ltb}
use Rattle.laws.specs.Lists.{from}
use Rattle.laws.proofs.Filters.{filter_all}
use Rattle.laws.proofs.Ranges.{mem_from}
use Rattle.laws.proofs.Tests.{iff, fst_true, snd_true, both_true, cross}
use Rattle.laws.proofs.Numbers.{square_rises, div_rises}
use Rattle.rules.specs.Sizes.{column, tile_no, row_of, column_of, tile_count, tile_of}
use Rattle.rules.specs.Span.{cover, meets, place, drawn}
use Rattle.rules.specs.Distance.{square, point, tile_rect, shares}
use Rattle.rules.specs.Classes.{class_of, allowed, allowed_in, report_tile}
use Rattle.rules.specs.Tables.{run_no, runs, tile_runs}
use Rattle.rules.specs.Search.{allowed_run, allowed_runs, report_run}
use Rattle.rules.specs.declared.Grid.{Grid}
use Rattle.rules.specs.declared.Point.{Point}
use Rattle.rules.specs.declared.Rect.{Rect}
use Rattle.rules.specs.declared.Span.{Span}
use Rattle.rules.proofs.Good.{GoodSpan, GoodRect}
use Rattle.rules.proofs.Spans.{gives_one, gap_drawn}
use Rattle.rules.proofs.Classes.{class_below, allowed_bits}

-- ---- runs

pub run_tile : (t class : ℕ) → class < 16 → run_no t class / 16 ≡ t
unfolding run_no
run_tile t class h = omega arith

pub run_class : (t class : ℕ) → class < 16 → run_no t class % 16 ≡ class
unfolding run_no
run_class t class h = omega arith

pub run_again : (k : ℕ) → run_no (k / 16) (k % 16) ≡ k
unfolding run_no
run_again k = omega arith

pub run_below : (g : Grid) (t class : ℕ) → t < tile_count g → class < 16 → run_no t class < runs g
unfolding run_no runs
run_below g t class h l = omega arith

module _ (g : Grid) (pos : 0 < g.side) where
  pub drawn_inside : (c : ℕ) (s : Span) → GoodSpan g s → drawn g.side c s < g.n
  unfolding drawn
  drawn_inside c s k =
      omega (arith, (div-lt_iff_lt-mul {x = s.hi} {y = g.n} pos).1 k.inside, div_rises {d = g.side} pos k.ordered)

  -- a tile is known by its column and its row
  pub tile_no_law : (t c r : ℕ) → c < g.n → (eqb (column_of g t) c && eqb (row_of g t) r) ≡ eqb t (tile_no g r c)
  unfolding column_of row_of tile_no
  tile_no_law t c r h =
      iff _ _
      (λ u.
      let e : t % g.n ≡ c = eqb-true _ _ (fst_true (eqb (t % g.n) c) (eqb (t / g.n) r) u) in
      let f : t / g.n ≡ r = eqb-true _ _ (snd_true (eqb (t % g.n) c) (eqb (t / g.n) r) u) in
      rw (← e, ← f, div-add-mod' t g.n) (eq-eqb t t refl))
      (λ u.
      let e : t ≡ r * g.n + c = eqb-true _ _ u in
      rw (e, digits_div r h, digits_mod r h, eq-eqb c c refl) (eq-eqb r r refl))

  pub column_again : (r c : ℕ) → c < g.n → column_of g (tile_no g r c) ≡ c
  unfolding column_of tile_no
  column_again r c h = digits_mod r h

  pub row_again : (r c : ℕ) → c < g.n → row_of g (tile_no g r c) ≡ r
  unfolding row_of tile_no
  row_again r c h = digits_div r h

  pub tile_below : (r c : ℕ) → r < g.n → c < g.n → tile_no g r c < tile_count g
  unfolding tile_no tile_count
  tile_below r c h k = digits_lt h k

  pub column_inside : (c : ℕ) → c < g.n * g.side → column g c < g.n
  unfolding column
  column_inside c h = (div-lt_iff_lt-mul pos).1 h

  module _ (q : Point) (a : Rect) (ok : GoodRect g a) where
    -- of all tiles its reporting tile gives it
    pub given_by_one_tile : (t : ℕ) → (shares (tile_rect g t) a && allowed_in g q t (class_of g t a)) ≡ eqb t (report_tile g q a)
    unfolding shares tile_rect allowed_in class_of report_tile
    given_by_one_tile t =
        ap (λ (b : Bool). shares (tile_rect g t) a && b)
        (allowed_bits (place (column_of g t) (column g q.x)) (place (row_of g t) (column g q.y)) _ _ _ _)
        ∙ cross (meets (cover g.side (column_of g t)) a.x) _ _ _
        ∙ ap₂ ◌&&◌ (gives_one pos (column_of g t) a.x ok.in_x.ordered (column g q.x))
        (gives_one pos (row_of g t) a.y ok.in_y.ordered (column g q.y))
        ∙ tile_no_law t _ _ (drawn_inside (column g q.x) a.x ok.in_x)

    pub report_below : report_tile g q a < tile_count g
    unfolding report_tile
    report_below = tile_below _ _ (drawn_inside (column g q.y) a.y ok.in_y) (drawn_inside (column g q.x) a.x ok.in_x)

    -- which is no farther than it
    pub report_near : square (point q) (tile_rect g (report_tile g q a)) ≤ square (point q) a
    unfolding square tile_rect report_tile point column
    report_near =
        let lt : drawn g.side (column g q.x) a.x < g.n = drawn_inside (column g q.x) a.x ok.in_x in
        rw (
          column_again (drawn g.side (column g q.y) a.y) (drawn g.side (column g q.x) a.x) lt,
          row_again (drawn g.side (column g q.y) a.y) (drawn g.side (column g q.x) a.x) lt,
        )
        (add-le-add (square_rises (gap_drawn pos q.x a.x ok.in_x.ordered)) (square_rises (gap_drawn pos q.y a.y ok.in_y.ordered)))

    -- the tile of its reporting run is its reporting tile
    pub report_run_tile : report_run g q a / 16 ≡ report_tile g q a
    unfolding report_run
    report_run_tile = run_tile (report_tile g q a) (class_of g (report_tile g q a) a) (class_below g (report_tile g q a) a)

    pub report_run_class : report_run g q a % 16 ≡ class_of g (report_tile g q a) a
    unfolding report_run
    report_run_class = run_class (report_tile g q a) (class_of g (report_tile g q a) a) (class_below g (report_tile g q a) a)

    pub run_reports : (k : ℕ) → k / 16 ≡ report_tile g q a → k % 16 ≡ class_of g (k / 16) a → k ≡ report_run g q a
    unfolding report_run
    run_reports k w e = sym (run_again k) ∙ ap₂ run_no w (e ∙ ap (λ (n : ℕ). class_of g n a) w)

    pub report_run_below : report_run g q a < runs g
    unfolding report_run
    report_run_below = run_below g (report_tile g q a) (class_of g (report_tile g q a) a) report_below (class_below g (report_tile g q a) a)

    -- of all runs its reporting run gives it
    pub given_by_one_run : (k : ℕ)
        → ((shares (tile_rect g (k / 16)) a && eqb (class_of g (k / 16) a) (k % 16)) && allowed_run g q k) ≡ eqb k (report_run g q a)
    unfolding allowed_run
    given_by_one_run k = iff _ _ there back
      where
        t : ℕ
        t = k / 16

        RT : ℕ
        RT = report_tile g q a

        there : ((shares (tile_rect g t) a && eqb (class_of g t a) (k % 16)) && allowed_in g q t (k % 16)) ≡ true → eqb k (report_run g q a) ≡ true
        there u =
            let s = fst_true (shares (tile_rect g t) a && eqb (class_of g t a) (k % 16)) (allowed_in g q t (k % 16)) u in
            let e : class_of g t a ≡ k % 16 = eqb-true _ _ (snd_true (shares (tile_rect g t) a) _ s) in
            let o : allowed_in g q t (class_of g t a) ≡ true = rw e (snd_true (shares (tile_rect g t) a && eqb (class_of g t a) (k % 16)) _ u) in
            let w : t ≡ RT = eqb-true _ _ (sym (given_by_one_tile t) ∙ both_true (fst_true (shares (tile_rect g t) a) _ s) o) in
            eq-eqb k (report_run g q a) (run_reports k w (sym e))

        back : eqb k (report_run g q a) ≡ true → ((shares (tile_rect g t) a && eqb (class_of g t a) (k % 16)) && allowed_in g q t (k % 16)) ≡ true
        back u =
            let e : k ≡ report_run g q a = eqb-true _ _ u in
            let f : t ≡ RT = ap (λ (n : ℕ). n / 16) e ∙ report_run_tile in
            let m : k % 16 ≡ class_of g RT a = ap (λ (n : ℕ). n % 16) e ∙ report_run_class in
            let v : (shares (tile_rect g RT) a && allowed_in g q RT (class_of g RT a)) ≡ true =
            given_by_one_tile RT ∙ eq-eqb RT RT refl in
            rw (f, m, fst_true (shares (tile_rect g RT) a) _ v, eq-eqb (class_of g RT a) (class_of g RT a) refl)
            (snd_true (shares (tile_rect g RT) a) (allowed_in g q RT (class_of g RT a)) v)

-- ---- the point's own tile

module _ (g : Grid) (pos : 0 < g.side) (q : Point) (h : column g q.x < g.n) where
  pub own_column : (t : ℕ) → t ≡ tile_of g q → column_of g t ≡ column g q.x
  unfolding tile_of
  own_column t e = rw e (column_again g pos (column g q.y) (column g q.x) h)

  pub own_row : (t : ℕ) → t ≡ tile_of g q → row_of g t ≡ column g q.y
  unfolding tile_of
  own_row t e = rw e (row_again g pos (column g q.y) (column g q.x) h)

  -- every run of it is allowed
  pub own_runs : allowed_runs g q (tile_of g q) ≡ tile_runs (tile_of g q)
  unfolding allowed_runs tile_runs allowed_run allowed_in allowed place
  own_runs = filter_all (allowed_run g q) (from (16 * tile_of g q) 16) (λ k m. all_given k (mem_from (16 * tile_of g q) 16 m))
    where
      place_own : (c d : ℕ) → c ≡ d → (px py : ℕ) → px ≡ py → (class : ℕ) → allowed (place c d) (place px py) class ≡ true
      place_own c d e px py f class = rw (e, f, le-ltb d d (omega arith), le-ltb py py (omega arith))

      all_given : (k : ℕ) → (16 * tile_of g q ≤ k) × (k < 16 * tile_of g q + 16) → allowed_run g q k ≡ true
      all_given k l =
          let e : k / 16 ≡ tile_of g q = omega arith in
          place_own (column_of g (k / 16)) (column g q.x) (own_column (k / 16) e) (row_of g (k / 16)) (column g q.y) (own_row (k / 16) e) (k % 16)
