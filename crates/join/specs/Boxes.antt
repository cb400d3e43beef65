-- Boxes around the footprints of a run, and where a join need not look at pairs because their boxes are too far apart. Assumes nothing.
use Rattle.std.specs.Prelude.{◌≡◌, Bool, true, ◌&&◌, not, List, ℕ}
use Rattle.laws.specs.Lists.{all}
use Rattle.rules.specs.Distance.{within}
use Rattle.rules.specs.Register.{rectangle}
use Rattle.rules.specs.JoinSteps.{in_box}
use Rattle.rules.specs.declared.Grid.{Grid}
use Rattle.rules.specs.declared.Rect.{Rect}
use Rattle.rules.specs.Tables.{Tables, run_at}
use Rattle.grid.specs.Tiles.{Near}
use Rattle.tables.specs.Entries.{good_entries}

-- a box holds the footprints of a list, and begins on the grid
pub record Holds (g : Grid) (reg : List ℕ) (b : Rect) (l : List ℕ) : Type 0 where
  pub each_in : all (λ i. in_box b (rectangle g reg i)) l ≡ true
  pub near : Near b

-- distance alone decides which pairs of the joined runs k and m are listed: so for all runs
unfoldable pub by_distance : Grid → ℕ → ℕ → ℕ → Bool
by_distance g r k m = true

-- what lies in two boxes is not listed: distance decides, and they are farther apart than r
unfoldable pub apart : Grid → ℕ → ℕ → ℕ → Rect → Rect → Bool
apart g r k m a b = by_distance g r k m && not (within r a b)

-- a side's run k: its register, its number, its entries, which may all be named, and a box that holds their footprints
pub record RunOf (g : Grid) (t : Tables) (k : ℕ) (reg : List ℕ) (no : ℕ) (l : List ℕ) (b : Rect) : Type 0 where
  pub register : reg ≡ t.reg
  pub numbered : no ≡ k
  pub entries : l ≡ run_at t k
  pub good : good_entries g reg l ≡ true
  pub held : Holds g reg b l
