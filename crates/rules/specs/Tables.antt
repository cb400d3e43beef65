-- Starts, entries and runs, what the build leaves, and damage in a run that is read: document 01, "Sizes and tables" and "Refusal numbers".
-- Assumes nothing.
use Rattle.std.specs.Prelude.{Bool, ◌&&◌, ◌||◌, not, List, ◌++◌, ℕ, ◌+◌, ◌*◌, ◌/◌, ◌%◌, ltb, eqb, length, get_or}
use Rattle.laws.specs.Lists.{filter, from, up_to, each, all, part, places}
use Rattle.rules.specs.Sizes.{most_entries, tile_count}
use Rattle.rules.specs.Distance.{tile_rect, shares}
use Rattle.rules.specs.Classes.{class_of}
use Rattle.rules.specs.Register.{footprints, rectangle, bad_entry, bad_register}
use Rattle.rules.specs.declared.Grid.{Grid}

-- the three lent tables
pub record Tables : Type 0 where
  pub reg : List ℕ
  pub starts : List ℕ
  pub entries : List ℕ

abbrev pub tables : List ℕ → List ℕ → List ℕ → Tables
tables reg starts entries = record { reg = reg; starts = starts; entries = entries }

-- run 16×tile+class
unfoldable pub run_no : ℕ → ℕ → ℕ
run_no t class = 16 * t + class

unfoldable pub runs : Grid → ℕ
runs g = 16 * tile_count g

-- the sixteen runs of a tile
unfoldable pub tile_runs : ℕ → List ℕ
tile_runs t = from (16 * t) 16

-- there are not exactly 16×n²+1 starts
unfoldable pub bad_starts : Grid → List ℕ → Bool
bad_starts g starts = not (eqb (length starts) (runs g + 1))

-- the register or the starts have a wrong length
unfoldable pub bad_lengths : Grid → Tables → Bool
bad_lengths g t = bad_register t.reg || bad_starts g t.starts

-- a run begins at its start and ends at the next
unfoldable pub run_start : List ℕ → ℕ → ℕ
run_start starts k = get_or starts k 0

unfoldable pub run_end : List ℕ → ℕ → ℕ
run_end starts k = get_or starts (k + 1) 0

-- the footprint numbers of run k
unfoldable pub run_at : Tables → ℕ → List ℕ
run_at t k = part t.entries (run_start t.starts k) (run_end t.starts k)

-- ---- damage

-- a start below its predecessor, or an end beyond the entries or over 268,435,456
unfoldable pub bad_ends : ℕ → ℕ → ℕ → Bool
bad_ends entries a e = ltb e a || ltb entries e || ltb most_entries e

-- a run that is read shows no damage
unfoldable pub good_run : Grid → Tables → ℕ → Bool
good_run g t k =
    not (bad_ends (length t.entries) (run_start t.starts k) (run_end t.starts k))
    && all (λ i. not (bad_entry g t.reg i)) (run_at t k)

-- every run of a list is read and shows no damage
unfoldable pub good_runs : Grid → Tables → List ℕ → Bool
good_runs g t ks = all (good_run g t) ks

-- ---- what the build leaves

-- footprint i stands in run k: it shares a point with the run's tile, and has the run's class there
unfoldable pub stands : Grid → List ℕ → ℕ → ℕ → Bool
stands g reg k i = shares (tile_rect g (k / 16)) (rectangle g reg i) && eqb (class_of g (k / 16) (rectangle g reg i)) (k % 16)

-- the numbers of run k, ascending
unfoldable pub built_run : Grid → List ℕ → ℕ → List ℕ
built_run g reg k = filter (stands g reg k) (footprints reg)

-- all runs, one behind the other
unfoldable pub built_entries : Grid → List ℕ → List ℕ
built_entries g reg = each (built_run g reg) (up_to (runs g))

-- where they begin; the last start is the entry count
unfoldable pub built_starts : Grid → List ℕ → List ℕ
built_starts g reg = places (built_run g reg) 0 0 (runs g)

-- the tables as the build left them: it leaves entries past the count unchanged, so any tail may follow
unfoldable pub built_tables : Grid → List ℕ → List ℕ → Tables
built_tables g reg tail = tables reg (built_starts g reg) (built_entries g reg ++ tail)
