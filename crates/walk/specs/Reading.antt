-- What is read: what was judged before, the runs of a tile by a mask of classes, and what they bring. Assumes nothing.
use Rattle.std.specs.Prelude.{◌≡◌, true, false, List, map, ℕ, ◌*◌, ◌≤◌, ◌<◌, length, Option, Some, None}
use Rattle.laws.specs.Lists.{each}
use Rattle.rules.specs.Sizes.{most_entries, bad_sizes, bad_point}
use Rattle.rules.specs.Tables.{Tables, run_at, good_runs}
use Rattle.rules.specs.Classes.{allowed_in}
use Rattle.rules.specs.Walk.{waiting_row}
use Rattle.rules.specs.declared.Grid.{Grid}
use Rattle.rules.specs.declared.Point.{Point}
use Rattle.rules.specs.declared.Item.TheVariants.{Footprint}
use Rattle.rules.specs.declared.Three.{Three}
use Rattle.grid.specs.Places.{is_on}

-- refusals 1 and 4 do not apply
pub record Placed (g : Grid) (q : Point) : Type 0 where
  pub sizes : bad_sizes g ≡ false
  pub point : bad_point g q ≡ false

-- entries as waiting rows
abbrev pub entry_rows : Grid → List ℕ → Point → List ℕ → List Three
entry_rows g reg q l = map (waiting_row g reg q) (map Footprint l)

-- the entries of runs as waiting rows
abbrev pub run_rows : Grid → Tables → Point → List ℕ → List Three
run_rows g t q ks = entry_rows g t.reg q (each (run_at t) ks)

-- the mask has the classes that are allowed in the tile
abbrev pub Allows : Grid → Point → ℕ → ℕ → Type 0
Allows g q tile mask = (class : ℕ) → class < 16 → is_on mask class ≡ allowed_in g q tile class

-- so many runs are judged: none shows damage, and their entries are counted
pub record Counted (g : Grid) (t : Tables) (ks : List ℕ) (many count : ℕ) : Type 0 where
  pub good : good_runs g t ks ≡ true
  pub counts : count ≡ length (each (run_at t) ks)
  pub few : count ≤ many * most_entries

-- or one does
abbrev pub Judged : Grid → Tables → List ℕ → ℕ → Option ℕ → Type 0
Judged g t ks many None = good_runs g t ks ≡ false
Judged g t ks many (Some count) = Counted g t ks many count
