-- What a join keeps of the pairs that it finds: it counts them all, and lays those that find room whole one behind the other. Assumes nothing.
use Rattle.std.specs.Prelude.{cond, List, [], ◌∷◌, ℕ, ◌+◌, ◌*◌, leb, length, set}
use Rattle.rules.specs.Join.{Pair}

-- how many pairs were found, and the memory that they are laid into
pub record Kept : Type 0 where
  pub pairs : ℕ
  pub memory : List ℕ

abbrev pub state : ℕ → List ℕ → Kept
state pairs memory = record { pairs = pairs; memory = memory }

-- a pair laid behind so many others, where there is room for both its numbers
unfoldable pub lay : ℕ → Pair → List ℕ → List ℕ
lay c p m = cond (leb (2 * c + 2) (length m)) (set (set m (2 * c) p.0) (2 * c + 1) p.1) m

-- one pair more
unfoldable pub keep_one : Kept → Pair → Kept
keep_one s p = state (s.pairs + 1) (lay s.pairs p s.memory)

-- the pairs of a list, one after the other
unfoldable pub kept : Kept → List Pair → Kept
kept s [] = s
kept s (p ∷ l) = kept (keep_one s p) l

-- a join has at most 2^56 pairs
abbrev pub most_pairs : ℕ
most_pairs = 72057594037927936
