-- Numbers the same way apart. Assumes nothing.
use Rattle.std.specs.Prelude.{List, [], ◌∷◌, ℕ, zero, suc, ◌+◌}

-- k numbers from s on, d apart
abbrev pub line : ℕ → ℕ → ℕ → List ℕ
line s d zero = []
line s d (suc k) = s ∷ line (s + d) d k
