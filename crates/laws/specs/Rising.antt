-- A list that rises strictly, by one pass over it. Assumes nothing.
use Rattle.std.specs.Prelude.{Bool, true, ◌&&◌, List, [], ◌∷◌, ℕ, suc, leb, ltb}

-- every number is at least the least that may come, passes the test, and lies below the next
abbrev pub rising : (ℕ → Bool) → ℕ → List ℕ → Bool
rising p least [] = true
rising p least (x ∷ l) = leb least x && p x && rising p (suc x) l

-- below n, and passing the test
abbrev pub below : ℕ → (ℕ → Bool) → ℕ → Bool
below n p x = ltb x n && p x
