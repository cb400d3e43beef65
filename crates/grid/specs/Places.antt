-- How the nine sets and the nine marks are numbered in their tables, and the bits of a mask. Assumes nothing.
use Rattle.std.specs.Prelude.{Bool, ℕ, ◌+◌, ◌*◌, ◌/◌, ◌%◌, ◌^◌, eqb}
use Rattle.rules.specs.Span.{Place, before, level, after}

-- before 0, level 1, after 2
abbrev pub place_no : Place → ℕ
place_no before = 0
place_no level = 1
place_no after = 2

-- position 3×(dy+1)+(dx+1), for a tile that lies so in x and in y
abbrev pub position : Place → Place → ℕ
position px py = 3 * place_no py + place_no px

-- bit k of a mask
unfoldable pub is_on : ℕ → ℕ → Bool
is_on mask k = eqb (mask / 2 ^ k % 2) 1
