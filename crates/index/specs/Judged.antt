-- The starts that the judge of build and check lets pass. Assumes nothing.
use Rattle.std.specs.Prelude.{◌≡◌, List, ℕ, ◌+◌, length}
use Rattle.rules.specs.Tables.{runs}
use Rattle.rules.specs.declared.Grid.{Grid}

-- a start for each run, and the end of the last
abbrev pub AllStarts : Grid → List ℕ → Type 0
AllStarts g starts = length starts ≡ runs g + 1
