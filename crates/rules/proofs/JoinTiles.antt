-- Two dimensions of the join: for two rectangles exactly one pair of tiles, and one pair of runs, is joined; within r ≤ side it is visited.
-- Assumes nothing.
use mathlib.Core.Path.{◌≡◌, refl, sym, ap, ap₂, ◌∙◌}
use mathlib.Core.Bool.{Bool, true, ◌&&◌}
use Prim.Native.Nat.{ℕ, ◌+◌, ◌/◌, ◌%◌, ◌≤◌, ◌<◌}
use native.Mathlib.Nat.{le_trans}
use native.Mathlib.Omega.{arith}
use lib.Dec.{eqb}
use borrow.Author.Tests.{eqb-true, leb-true, eq-eqb}
use Rattle.laws.proofs.Tests.{iff, fst_true, snd_true, both_true, all_three, cross, cross_three}
use Rattle.laws.proofs.Numbers.{square_back}
use Rattle.rules.specs.Sizes.{column, row_of, column_of}
use Rattle.rules.specs.Span.{cover, gap, meets, place, drawn}
use Rattle.rules.specs.Distance.{sq, square, within, tile_rect, shares}
use Rattle.rules.specs.Classes.{class_of, marked_in, report_tile}
use Rattle.rules.specs.Search.{report_run}
use Rattle.rules.specs.Join.{neighbours, corner}
use Rattle.rules.specs.declared.Grid.{Grid}
use Rattle.rules.specs.declared.Rect.{Rect}
use Rattle.rules.proofs.Good.{GoodRect}
use Rattle.rules.proofs.Classes.{marked_bits}
use Rattle.rules.proofs.Report.{drawn_inside, tile_no_law, column_again, row_again, report_run_tile, report_run_class, run_reports}
use Rattle.rules.proofs.JoinSpans.{joined_one, joined_beside}

module _ (g : Grid) (pos : 0 < g.side) (a b : Rect) (ok_a : GoodRect g a) (ok_b : GoodRect g b) where
  -- of all pairs of tiles that the two stand in, one is joined: the tiles that report each from where the other begins
  pub joined_in_one_pair : (t u : ℕ)
      → ((shares (tile_rect g t) a && shares (tile_rect g u) b) && marked_in g t u (class_of g t a) (class_of g u b))
      ≡ (eqb t (report_tile g (corner b) a) && eqb u (report_tile g (corner a) b))
  unfolding shares tile_rect marked_in class_of report_tile corner column
  joined_in_one_pair t u =
      ap (λ (m : Bool). (shares (tile_rect g t) a && shares (tile_rect g u) b) && m)
      (marked_bits (place (column_of g u) (column_of g t)) (place (row_of g u) (row_of g t)) _ _ _ _ _ _ _ _)
      ∙ cross_three (meets (cover g.side (column_of g t)) a.x) _ (meets (cover g.side (column_of g u)) b.x) _ _ _
      ∙ ap₂ ◌&&◌ (joined_one pos a.x b.x ok_a.in_x.ordered ok_b.in_x.ordered (column_of g t) (column_of g u))
      (joined_one pos a.y b.y ok_a.in_y.ordered ok_b.in_y.ordered (row_of g t) (row_of g u))
      ∙ cross (eqb (column_of g t) _) _ (eqb (row_of g t) _) _
      ∙ ap₂ ◌&&◌ (tile_no_law g pos t _ _ (drawn_inside g pos _ a.x ok_a.in_x)) (tile_no_law g pos u _ _ (drawn_inside g pos _ b.x ok_b.in_x))

  -- within r ≤ side these two tiles are neighbours, so a pair of tiles that is not visited hides no pair
  pub joined_is_visited : (r : ℕ) → r ≤ g.side → within r a b ≡ true
      → neighbours g (report_tile g (corner b) a) (report_tile g (corner a) b) ≡ true
  unfolding neighbours report_tile within square corner column
  joined_is_visited r h w =
      let k : sq (gap a.x b.x) + sq (gap a.y b.y) ≤ sq r = leb-true _ _ w in
      let la : drawn g.side (b.x.lo / g.side) a.x < g.n = drawn_inside g pos _ a.x ok_a.in_x in
      let lb : drawn g.side (a.x.lo / g.side) b.x < g.n = drawn_inside g pos _ b.x ok_b.in_x in
      rw (
        column_again g pos (drawn g.side (b.y.lo / g.side) a.y) _ la,
        row_again g pos (drawn g.side (b.y.lo / g.side) a.y) _ la,
        column_again g pos (drawn g.side (a.y.lo / g.side) b.y) _ lb,
        row_again g pos (drawn g.side (a.y.lo / g.side) b.y) _ lb,
        joined_beside pos a.x b.x ok_a.in_x.ordered ok_b.in_x.ordered (le_trans (square_back (omega arith)) h),
        joined_beside pos a.y b.y ok_a.in_y.ordered ok_b.in_y.ordered (le_trans (square_back (omega arith)) h),
      )

  module _ (r : ℕ) (small : r ≤ g.side) where
    -- at any pair of tiles where the two are joined and within r
    pub unvisited_hides_none : (t u : ℕ)
        → ((shares (tile_rect g t) a && shares (tile_rect g u) b) && marked_in g t u (class_of g t a) (class_of g u b)) ≡ true
        → within r a b ≡ true → neighbours g t u ≡ true
    unvisited_hides_none t u e w =
        let f : (eqb t (report_tile g (corner b) a) && eqb u (report_tile g (corner a) b)) ≡ true = sym (joined_in_one_pair t u) ∙ e in
        let et : t ≡ report_tile g (corner b) a = eqb-true _ _ (fst_true (eqb t (report_tile g (corner b) a)) _ f) in
        let eu : u ≡ report_tile g (corner a) b = eqb-true _ _ (snd_true (eqb t (report_tile g (corner b) a)) _ f) in
        rw (et, eu) (joined_is_visited r small w)

    -- of all pairs of runs that the two stand in and that are visited, one lists them where they are within r
    pub listed_in_one_pair : (k m : ℕ)
        → (neighbours g (k / 16) (m / 16) && (marked_in g (k / 16) (m / 16) (k % 16) (m % 16)
        && ((shares (tile_rect g (k / 16)) a && eqb (class_of g (k / 16) a) (k % 16)
        && (shares (tile_rect g (m / 16)) b && eqb (class_of g (m / 16) b) (m % 16))) && within r a b)))
        ≡ (eqb k (report_run g (corner b) a) && eqb m (report_run g (corner a) b) && within r a b)
    listed_in_one_pair k m = iff _ _ there back
      where
        t : ℕ
        t = k / 16

        u : ℕ
        u = m / 16

        RT : ℕ
        RT = report_tile g (corner b) a

        ST : ℕ
        ST = report_tile g (corner a) b

        stands_a : Bool
        stands_a = shares (tile_rect g t) a && eqb (class_of g t a) (k % 16)

        stands_b : Bool
        stands_b = shares (tile_rect g u) b && eqb (class_of g u b) (m % 16)

        mark : Bool
        mark = marked_in g t u (k % 16) (m % 16)

        there : (neighbours g t u && (mark && (stands_a && stands_b && within r a b))) ≡ true
            → (eqb k (report_run g (corner b) a) && eqb m (report_run g (corner a) b) && within r a b) ≡ true
        there e =
            let e₁ : (mark && (stands_a && stands_b && within r a b)) ≡ true = snd_true (neighbours g t u) _ e in
            let e₂ : (stands_a && stands_b && within r a b) ≡ true = snd_true mark _ e₁ in
            let e₃ = all_three stands_a stands_b (within r a b) e₂ in
            let ca : class_of g t a ≡ k % 16 = eqb-true _ _ (snd_true (shares (tile_rect g t) a) _ e₃.0) in
            let cb : class_of g u b ≡ m % 16 = eqb-true _ _ (snd_true (shares (tile_rect g u) b) _ e₃.1) in
            let both : (shares (tile_rect g t) a && shares (tile_rect g u) b) ≡ true =
            both_true (fst_true (shares (tile_rect g t) a) _ e₃.0) (fst_true (shares (tile_rect g u) b) _ e₃.1) in
            let at : (eqb t RT && eqb u ST) ≡ true = sym (joined_in_one_pair t u) ∙ rw (both, ca, cb) (fst_true mark _ e₁) in
            let et : t ≡ RT = eqb-true t RT (fst_true (eqb t RT) (eqb u ST) at) in
            let eu : u ≡ ST = eqb-true u ST (snd_true (eqb t RT) (eqb u ST) at) in
            both_true
            (both_true
            (eq-eqb _ _ (run_reports g pos (corner b) a ok_a k et (sym ca)))
            (eq-eqb _ _ (run_reports g pos (corner a) b ok_b m eu (sym cb))))
            e₃.2

        back : (eqb k (report_run g (corner b) a) && eqb m (report_run g (corner a) b) && within r a b) ≡ true
            → (neighbours g t u && (mark && (stands_a && stands_b && within r a b))) ≡ true
        back e =
            let p = all_three (eqb k (report_run g (corner b) a)) (eqb m (report_run g (corner a) b)) (within r a b) e in
            let ek : k ≡ report_run g (corner b) a = eqb-true _ _ p.0 in
            let em : m ≡ report_run g (corner a) b = eqb-true _ _ p.1 in
            let et : t ≡ RT = ap (λ (n : ℕ). n / 16) ek ∙ report_run_tile g pos (corner b) a ok_a in
            let eu : u ≡ ST = ap (λ (n : ℕ). n / 16) em ∙ report_run_tile g pos (corner a) b ok_b in
            let ea : k % 16 ≡ class_of g RT a = ap (λ (n : ℕ). n % 16) ek ∙ report_run_class g pos (corner b) a ok_a in
            let eb : m % 16 ≡ class_of g ST b = ap (λ (n : ℕ). n % 16) em ∙ report_run_class g pos (corner a) b ok_b in
            let v : ((shares (tile_rect g RT) a && shares (tile_rect g ST) b) && marked_in g RT ST (class_of g RT a) (class_of g ST b)) ≡ true =
            joined_in_one_pair RT ST ∙ both_true (eq-eqb RT RT refl) (eq-eqb ST ST refl) in
            let q = all_three (shares (tile_rect g RT) a) (shares (tile_rect g ST) b) (marked_in g RT ST (class_of g RT a) (class_of g ST b)) v in
            rw (
              et,
              eu,
              ea,
              eb,
              joined_is_visited r small p.2,
              q.2,
              q.0,
              q.1,
              eq-eqb (class_of g RT a) (class_of g RT a) refl,
              eq-eqb (class_of g ST b) (class_of g ST b) refl,
              p.2,
            )
