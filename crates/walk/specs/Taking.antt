-- An ask in memory: what stands, one row taken, all taken that are wanted. Assumes nothing.
use Rattle.std.specs.Prelude.{◌≡◌, false, List, ℕ, ◌+◌, ◌-◌, ◌*◌, ◌≤◌, ◌<◌, length, take, drop, Option, Some, None}
use Rattle.rules.specs.Tables.{Tables}
use Rattle.rules.specs.Front.{rows}
use Rattle.rules.specs.Walk.{Move, move, row_numbers, Machine, machine, spoiled, after_move, step, finish}
use Rattle.rules.specs.declared.Grid.{Grid}
use Rattle.rules.specs.declared.Point.{Point}
use Rattle.walk.specs.Fill.{Got, lost, kept}
use Rattle.walk.specs.declared.take.At.{At}

abbrev pub state : ℕ → ℕ → At
state head given = record { head = head; given = given }

-- what stands: the rows from the head on, and the numbers of the rows given
unfoldable pub standing : List ℕ → List ℕ → ℕ → At → Machine
standing front out j s = machine (drop s.head (rows front)) (take (row_numbers * s.given) out) (j - s.given) false

-- the same of rows that are brought
abbrev pub got_machine : Got → List ℕ → ℕ → Machine
got_machine lost o j = spoiled
got_machine (kept r l) o j = machine l o j false

-- the first row is off the front, and has moved so
pub record Moves (m : Move) (front out front' out' : List ℕ) (s r : At) : Type 0 where
  pub inside : r.head ≤ length (rows front')
  pub more : (s.given ≤ r.given) × (r.given ≤ s.given + 1)
  pub behind : drop (row_numbers * r.given) out' ≡ drop (row_numbers * r.given) out
  pub is : (j : ℕ) → s.given < j
      → standing front' out' j r ≡ after_move (length (rows front)) m (j - s.given - 1) (drop (s.head + 1) (rows front)) (take (row_numbers * s.given) out)

-- or damage was met, and no number is given
pub record Breaks (m : Move) (front out out' : List ℕ) (s : At) : Type 0 where
  pub same : out' ≡ out
  pub is : (j : ℕ) → s.given < j
      → spoiled ≡ after_move (length (rows front)) m (j - s.given - 1) (drop (s.head + 1) (rows front)) (take (row_numbers * s.given) out)

abbrev pub Moved : Move → List ℕ → List ℕ → List ℕ → List ℕ → At → Option At → Type 0
Moved m front out front' out' s None = Breaks m front out out' s
Moved m front out front' out' s (Some r) = Moves m front out front' out' s r

-- one row is taken
pub record Takes (g : Grid) (t : Tables) (q : Point) (front out front' out' : List ℕ) (s r : At) : Type 0 where
  pub inside : r.head ≤ length (rows front')
  pub more : (s.given ≤ r.given) × (r.given ≤ s.given + 1)
  pub behind : drop (row_numbers * r.given) out' ≡ drop (row_numbers * r.given) out
  pub is : (j : ℕ) → s.given < j → standing front' out' j r ≡ step (move g t q) (length (rows front)) (standing front out j s)

-- or damage is met
pub record Stops (g : Grid) (t : Tables) (q : Point) (front out out' : List ℕ) (s : At) : Type 0 where
  pub same : out' ≡ out
  pub is : (j : ℕ) → s.given < j → spoiled ≡ step (move g t q) (length (rows front)) (standing front out j s)

abbrev pub Taken : Grid → Tables → Point → List ℕ → List ℕ → List ℕ → List ℕ → At → Option At → Type 0
Taken g t q front out front' out' s None = Stops g t q front out out' s
Taken g t q front out front' out' s (Some r) = Takes g t q front out front' out' s r

-- all rows that are wanted are taken
pub record Runs (g : Grid) (t : Tables) (q : Point) (front out front' out' : List ℕ) (head j : ℕ) (r : At) : Type 0 where
  pub inside : r.head ≤ length (rows front')
  pub few : r.given ≤ j
  pub behind : drop (row_numbers * r.given) out' ≡ drop (row_numbers * r.given) out
  pub is : standing front' out' j r ≡ finish g t q (length (rows front)) (standing front out j (state head 0))

-- or damage is met on the way
pub record Fails (g : Grid) (t : Tables) (q : Point) (front out out' : List ℕ) (head j : ℕ) : Type 0 where
  pub behind : drop (row_numbers * j) out' ≡ drop (row_numbers * j) out
  pub is : spoiled ≡ finish g t q (length (rows front)) (standing front out j (state head 0))

abbrev pub Ran : Grid → Tables → Point → List ℕ → List ℕ → List ℕ → List ℕ → ℕ → ℕ → Option At → Type 0
Ran g t q front out front' out' head j None = Fails g t q front out out' head j
Ran g t q front out front' out' head j (Some r) = Runs g t q front out front' out' head j r
