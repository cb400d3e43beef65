-- The marks of all class pairs, as the loops of a join are lent them. Assumes nothing.
use Rattle.std.specs.Prelude.{◌≡◌, List, ℕ, ◌/◌, ◌%◌, ◌<◌, length, get_or}
use Rattle.rules.specs.Span.{Place}
use Rattle.rules.specs.Classes.{marked}
use Rattle.grid.specs.Places.{position, is_on}

-- the mask has the nine marks of R's class a and S's class b
abbrev pub Nine : ℕ → ℕ → ℕ → Type 0
Nine mask a b = (px py : Place) → is_on mask (position px py) ≡ marked px py a b

-- the first n numbers are the masks of their class pairs, 16×(R class)+(S class)
abbrev pub MarksBelow : ℕ → List ℕ → Type 0
MarksBelow n l = (k : ℕ) → k < n → Nine (get_or l k 0) (k / 16) (k % 16)

pub record Marks (l : List ℕ) : Type 0 where
  pub long : length l ≡ 256
  pub right : MarksBelow 256 l
