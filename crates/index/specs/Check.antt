-- What the check finds in one pass: each run rises, and every entry of it is a footprint that stands there. Assumes nothing.
use Rattle.std.specs.Prelude.{Bool, ◌&&◌, List, ℕ, ◌+◌, leb, eqb, length, get_or}
use Rattle.laws.specs.Lists.{up_to, all, part}
use Rattle.laws.specs.Rising.{rising, below}
use Rattle.rules.specs.Span.{cover, meets}
use Rattle.rules.specs.Register.{count, rectangle}
use Rattle.rules.specs.Tables.{runs, stands, built_entries}
use Rattle.rules.specs.declared.Grid.{Grid}
use Rattle.grid.specs.Tiles.{class_at}

-- footprint i stands in the run of a class in the tile of a row and a column
unfoldable pub stands_at : Grid → List ℕ → ℕ → ℕ → ℕ → ℕ → Bool
stands_at g reg row col class i =
    meets (cover g.side col) (rectangle g reg i).x && meets (cover g.side row) (rectangle g reg i).y
    && eqb (class_at g row col (rectangle g reg i)) class

-- a run of run k's footprints: strictly ascending, each one of the register that stands in run k
unfoldable pub is_run : Grid → List ℕ → ℕ → List ℕ → Bool
is_run g reg k l = rising (below (count reg) (stands g reg k)) 0 l

-- run k's start does not fall, its end is within the entries, and what lies between is such a run
unfoldable pub run_right : Grid → List ℕ → List ℕ → List ℕ → ℕ → Bool
run_right g reg starts entries k =
    leb (get_or starts k 0) (get_or starts (k + 1) 0) && leb (get_or starts (k + 1) 0) (length entries)
    && is_run g reg k (part entries (get_or starts k 0) (get_or starts (k + 1) 0))

-- the first start is 0, the last is what the register needs, and every run is right
unfoldable pub is_right : Grid → List ℕ → List ℕ → List ℕ → Bool
is_right g reg starts entries =
    eqb (get_or starts 0 0) 0 && eqb (get_or starts (runs g) 0) (length (built_entries g reg)) && all (run_right g reg starts entries) (up_to (runs g))
