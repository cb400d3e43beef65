-- The entries of a run. Assumes nothing.
use Rattle.std.specs.Prelude.{Bool, not, List, ℕ}
use Rattle.laws.specs.Lists.{all}
use Rattle.rules.specs.Register.{bad_entry}
use Rattle.rules.specs.declared.Grid.{Grid}

-- every entry may be named
abbrev pub good_entries : Grid → List ℕ → List ℕ → Bool
good_entries g reg l = all (λ i. not (bad_entry g reg i)) l
