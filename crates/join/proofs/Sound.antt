-- What a side that passed every judge gives: its runs' ends stand in the starts and are good, and its entries may be named. Assumes nothing.
use mathlib.Core.Path.{◌≡◌}
use mathlib.Core.Bool.{true, false, not}
use mathlib.Core.List.{List}
use Prim.Native.Nat.{ℕ, ◌+◌, ◌≤◌, ◌<◌}
use native.Mathlib.Omega.{arith}
use lib.ListN.{length, get_or}
use borrow.Author.Tests.{not-true}
use Rattle.laws.proofs.Tests.{fst_true, snd_true, neither}
use Rattle.laws.proofs.Computed.{all_below}
use Rattle.laws.proofs.Passing.{all_at}
use Rattle.rules.specs.Sizes.{bad_sizes, tile_count}
use Rattle.rules.specs.Register.{bad_entry, bad_register}
use Rattle.rules.specs.Tables.{Tables, bad_lengths, bad_starts, bad_ends, run_no, runs, run_start, run_end, run_at, good_run, good_runs}
use Rattle.rules.specs.declared.Grid.{Grid}
use Rattle.rules.proofs.Good.{good_sizes}
use Rattle.rules.proofs.Report.{run_below}
use Rattle.grid.proofs.Bounds.{square_most}
use Rattle.tables.specs.Entries.{good_entries}
use Rattle.join.specs.Levels.{Sound}
use Rattle.join.proofs.Judging.{starts_length}

pub entry_good : (g : Grid) (reg l : List ℕ) (i : ℕ) → i < length l → good_entries g reg l ≡ true → bad_entry g reg (get_or l i 0) ≡ false
entry_good g reg l i h e = not-true _ (all_at (λ i. not (bad_entry g reg i)) l i h e)

pub tiles_most : (g : Grid) → bad_sizes g ≡ false → tile_count g ≤ 4096
unfolding tile_count
tiles_most g s = square_most g.n (good_sizes g s).n_most

module _ (g : Grid) (t : Tables) (s : Sound g t) (k : ℕ) (h : k < runs g) where
  run_good : good_run g t k ≡ true
  unfolding good_runs
  run_good = all_below (good_run g t) (runs g) s.all_good k h

  pub run_stands : k + 1 < length t.starts
  unfolding bad_lengths
  run_stands =
      let e = starts_length g t.starts (neither (bad_register t.reg) (bad_starts g t.starts) s.lengths).1 in
      omega arith

  pub run_ends_good : bad_ends (length t.entries) (run_start t.starts k) (run_end t.starts k) ≡ false
  unfolding good_run
  run_ends_good = not-true _ (fst_true (not (bad_ends (length t.entries) (run_start t.starts k) (run_end t.starts k))) _ run_good)

  pub run_entries_good : good_entries g t.reg (run_at t k) ≡ true
  unfolding good_run
  run_entries_good = snd_true (not (bad_ends (length t.entries) (run_start t.starts k) (run_end t.starts k))) _ run_good

-- the run of a class in a tile of the grid
module _ (g : Grid) (t : Tables) (s : Sound g t) (tile class k : ℕ) (h : tile < tile_count g) (c : class < 16) (e : k ≡ run_no tile class) where
  on_grid : k < runs g
  on_grid = rw e (run_below g tile class h c)

  pub class_ends : (k + 1 < length t.starts) × (bad_ends (length t.entries) (run_start t.starts k) (run_end t.starts k) ≡ false)
  class_ends = (run_stands g t s k on_grid, run_ends_good g t s k on_grid)

  pub class_entries : (l : List ℕ) → l ≡ run_at t k → good_entries g t.reg l ≡ true
  class_entries l f = rw f (run_entries_good g t s k on_grid)

-- a tile of the grid is one of 4,096
pub tile_below : (g : Grid) (tile : ℕ) → bad_sizes g ≡ false → tile < tile_count g → tile < 4096
tile_below g tile s h = omega (arith, tiles_most g s)
