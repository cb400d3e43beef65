-- Pairs: all pairs of two lists, and how often a pair of numbers stands in a list. Assumes nothing.
use Rattle.std.specs.Prelude.{Bool, ◌&&◌, List, map, ℕ, eqb, length}
use Rattle.laws.specs.Lists.{filter, each}

-- all pairs of two lists, by the first
abbrev pub pairs : {A B : Type 0} → List A → List B → List (A × B)
pairs {B = B} l m = each (λ i. map (λ (j : B). (i, j)) m) l

-- two pairs are the same
abbrev pub same_pair : ℕ × ℕ → ℕ × ℕ → Bool
same_pair p q = eqb p.0 q.0 && eqb p.1 q.1

-- how often a pair stands in a list
abbrev pub pair_times : ℕ × ℕ → List (ℕ × ℕ) → ℕ
pair_times p l = length (filter (same_pair p) l)
