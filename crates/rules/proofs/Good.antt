-- What the judges of sizes, registers and points leave: bounds, and rectangles that lie on the grid. Laws use no more of a rectangle.
-- Assumes nothing.
use mathlib.Core.Path.{◌≡◌}
use mathlib.Core.Bool.{true, false, ◌&&◌, ◌||◌, not}
use mathlib.Core.List.{List, [], ◌++◌, Memᴰ}
use Prim.Native.Nat.{ℕ, ◌*◌, ◌%◌, ◌≤◌, ◌<◌, zero-le}
use native.Mathlib.Omega.{arith}
use lib.Dec.{leb, ltb, eqb}
use lib.ListN.{length}
use borrow.Author.Tests.{ltb-false, leb-false, lt-leb}
use Rattle.laws.specs.Lists.{filter, up_to}
use Rattle.laws.proofs.Parts.{all_append}
use Rattle.laws.proofs.Tests.{by_bool, neither}
use Rattle.laws.proofs.Members.{filter_mem}
use Rattle.laws.proofs.Ranges.{from_mem}
use Rattle.rules.specs.Sizes.{most_footprints, bad_sizes, off_grid, bad_point}
use Rattle.rules.specs.Register.{count, footprints, recorded, rectangle, bad_span, bad_footprint, bad_footprints, bad_entry, bad_register}
use Rattle.rules.specs.Tables.{Tables, good_run, good_runs}
use Rattle.rules.specs.declared.Grid.{Grid}
use Rattle.rules.specs.declared.Point.{Point}
use Rattle.rules.specs.declared.Rect.{Rect}
use Rattle.rules.specs.declared.Span.{Span}

pub record GoodSizes (g : Grid) : Type 0 where
  pub n_pos : 0 < g.n
  pub n_most : g.n ≤ 64
  pub side_pos : 0 < g.side
  pub side_most : g.side ≤ 16384

pub good_sizes : (g : Grid) → bad_sizes g ≡ false → GoodSizes g
unfolding bad_sizes
good_sizes g e =
    let a = neither (ltb g.n 1 || ltb 64 g.n || ltb g.side 1) (ltb 16384 g.side) e in
    let b = neither (ltb g.n 1 || ltb 64 g.n) (ltb g.side 1) a.0 in
    let c = neither (ltb g.n 1) (ltb 64 g.n) b.0 in
    record {
      n_pos = ltb-false _ _ c.0;
      n_most = ltb-false _ _ c.1;
      side_pos = ltb-false _ _ b.1;
      side_most = ltb-false _ _ a.1;
    }

pub record OnGrid (g : Grid) (q : Point) : Type 0 where
  pub x_on : q.x < g.n * g.side
  pub y_on : q.y < g.n * g.side

pub on_grid : (g : Grid) (q : Point) → bad_point g q ≡ false → OnGrid g q
unfolding bad_point off_grid
on_grid g q e =
    let a = neither (leb (g.n * g.side) q.x) (leb (g.n * g.side) q.y) e in
    record { x_on = leb-false _ _ a.0; y_on = leb-false _ _ a.1 }

pub record GoodSpan (g : Grid) (s : Span) : Type 0 where
  pub ordered : s.lo ≤ s.hi
  pub inside : s.hi < g.n * g.side

pub record GoodRect (g : Grid) (a : Rect) : Type 0 where
  pub in_x : GoodSpan g a.x
  pub in_y : GoodSpan g a.y

pub good_span : (g : Grid) (s : Span) → bad_span g s ≡ false → GoodSpan g s
unfolding bad_span off_grid
good_span g s e =
    let a = neither (ltb s.hi s.lo) (leb (g.n * g.side) s.hi) e in
    record { ordered = ltb-false _ _ a.0; inside = leb-false _ _ a.1 }

-- a footprint that does not meet 3 has a rectangle on the grid
pub good_rectangle : (g : Grid) (reg : List ℕ) (i : ℕ) → bad_footprint g reg i ≡ false → GoodRect g (rectangle g reg i)
unfolding bad_footprint rectangle
good_rectangle g reg i e =
    let a = neither (bad_span g (recorded reg i).x) (bad_span g (recorded reg i).y) e in
    record { in_x = good_span g (recorded reg i).x a.0; in_y = good_span g (recorded reg i).y a.1 }

-- an entry that may be named is below the count, and its footprint does not meet 3
pub good_entry : (g : Grid) (reg : List ℕ) (i : ℕ) → bad_entry g reg i ≡ false → (i < count reg) × (bad_footprint g reg i ≡ false)
unfolding bad_entry
good_entry g reg i e =
    let a = neither (leb (count reg) i) (bad_footprint g reg i) e in
    (leb-false _ _ a.0, a.1)

-- ---- a register that a build accepts

pub record Accepted (g : Grid) (reg : List ℕ) : Type 0 where
  pub sizes : bad_sizes g ≡ false
  pub register : bad_register reg ≡ false
  pub none_bad : bad_footprints g reg ≡ []

module _ (g : Grid) (reg : List ℕ) (ok : Accepted g reg) where
  pub few_footprints : count reg ≤ 65536
  unfolding bad_register
  few_footprints = ltb-false _ _ (neither (not (eqb (length reg % 4) 0)) (ltb most_footprints (count reg)) ok.register).1

  pub not_bad : (i : ℕ) → i < count reg → bad_footprint g reg i ≡ false
  unfolding bad_footprints footprints
  not_bad i h = by_bool (bad_footprint g reg i) (λ e. absurd (nothing e)) (λ e. e)
    where
      nothing : bad_footprint g reg i ≡ true → ⊥
      nothing e =
          let m : Memᴰ i (filter (bad_footprint g reg) (up_to (count reg))) =
          filter_mem (bad_footprint g reg) (up_to (count reg)) (from_mem 0 (count reg) i zero-le (omega arith)) e in
          mathlib.Core.List.Memᴰ.not-nil (rw ok.none_bad at m)

  pub good_footprint : (i : ℕ) → i < count reg → GoodRect g (rectangle g reg i)
  good_footprint i h = good_rectangle g reg i (not_bad i h)

  pub may_be_named : (i : ℕ) → i < count reg → bad_entry g reg i ≡ false
  unfolding bad_entry
  may_be_named i h = rw (lt-leb (count reg) i h) (not_bad i h)

-- runs one behind the other show no damage where none of both does
pub good_runs_append : (g : Grid) (t : Tables) (ks ms : List ℕ) → good_runs g t (ks ++ ms) ≡ (good_runs g t ks && good_runs g t ms)
unfolding good_runs
good_runs_append g t ks ms = all_append (good_run g t) ks ms
