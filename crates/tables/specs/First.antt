-- The first of a list, and of a range while it is looked for. Assumes nothing.
use Rattle.std.specs.Prelude.{◌≡◌, List, [], ◌∷◌, ℕ, ◌-◌, ◌≤◌, Bool, Option, Some, None}
use Rattle.laws.specs.Lists.{filter, from, up_to}

-- the first number of a list, if it has one
abbrev pub first_of : List ℕ → Option ℕ
first_of [] = None
first_of (i ∷ l) = Some i

-- the first of those from i on is the first of all
pub record Sought (p : ℕ → Bool) (n i : ℕ) : Type 0 where
  pub most : i ≤ n
  pub rest : first_of (filter p (from i (n - i))) ≡ first_of (filter p (up_to n))
