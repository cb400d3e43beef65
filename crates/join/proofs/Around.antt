-- Where a join's loops go: rows, columns and positions in range, and the runs of tiles on the grid. Assumes nothing.
use mathlib.Core.Path.{◌≡◌, sym, ◌∙◌}
use mathlib.Core.Bool.{Bool, true, false, ◌&&◌}
use Prim.Native.Nat.{ℕ, ◌+◌, ◌/◌, ◌%◌, ◌≤◌, ◌<◌}
use native.Mathlib.Nat.{div-lt_iff_lt-mul}
use lib.Dec.{leb}
use borrow.Author.Tests.{leb-true}
use Rattle.laws.proofs.Tests.{fst_true, snd_true}
use Rattle.rules.specs.Sizes.{row_of, column_of, tile_count}
use Rattle.rules.specs.JoinSteps.{reaches, has_tile}
use Rattle.rules.specs.declared.Grid.{Grid}

module _ (g : Grid) (some : 1 ≤ g.n) (t : ℕ) (h : t < tile_count g) where
  -- a tile's row and column are on the grid
  pub row_below : t / g.n < g.n
  unfolding tile_count
  row_below = (div-lt_iff_lt-mul some).1 h

  -- so are those of a tile at a position from it
  pub around_below : (p : ℕ) → has_tile g t p ≡ true
      → (1 ≤ t / g.n + p / 3) × (t / g.n + p / 3 ≤ g.n) × (1 ≤ t % g.n + p % 3) × (t % g.n + p % 3 ≤ g.n)
  unfolding has_tile reaches row_of column_of
  around_below p e =
      let y = fst_true (leb 1 (t / g.n + p / 3) && leb (t / g.n + p / 3) g.n) _ e in
      let x = snd_true (leb 1 (t / g.n + p / 3) && leb (t / g.n + p / 3) g.n) _ e in (
        leb-true _ _ (fst_true (leb 1 (t / g.n + p / 3)) _ y),
        leb-true _ _ (snd_true (leb 1 (t / g.n + p / 3)) _ y),
        leb-true _ _ (fst_true (leb 1 (t % g.n + p % 3)) _ x),
        leb-true _ _ (snd_true (leb 1 (t % g.n + p % 3)) _ x),
      )

pub no_row : (g : Grid) (t p : ℕ) (b : Bool) → b ≡ reaches g.n (t / g.n) (p / 3) → b ≡ false → false ≡ has_tile g t p
unfolding has_tile row_of
no_row g t p b e f = rw (sym e ∙ f)

pub a_row : (g : Grid) (t p : ℕ) (b : Bool) → b ≡ reaches g.n (t / g.n) (p / 3) → b ≡ true → reaches g.n (t % g.n) (p % 3) ≡ has_tile g t p
unfolding has_tile row_of column_of
a_row g t p b e f = rw (sym e ∙ f)
