-- One dimension: a span of coordinates against a tile column (a row likewise), against another span, and against the point's column.
-- Document 01, "Sizes and tables", "Classes and tile types" and "Join". Assumes nothing.
use Rattle.std.specs.Prelude.{Bool, true, ◌&&◌, not, cond, ℕ, ◌+◌, ◌-◌, ◌*◌, ◌/◌, max, min, leb, ltb}
use Rattle.rules.specs.declared.Span.{Span}

abbrev pub span : ℕ → ℕ → Span
span lo hi = record { lo = lo; hi = hi }

-- a coordinate is a span of one
abbrev pub at : ℕ → Span
at c = span c c

-- tile column c covers c×side..(c+1)×side−1
unfoldable pub cover : ℕ → ℕ → Span
cover side c = span (c * side) ((c + 1) * side - 1)

-- the larger of 0 and what separates the two ends
unfoldable pub gap : Span → Span → ℕ
gap a b = max (b.lo - a.hi) (a.lo - b.hi)

-- the two share a coordinate
unfoldable pub meets : Span → Span → Bool
meets a b = leb b.lo a.hi && leb a.lo b.hi

-- the two bits: begins before the tile, ends after it
unfoldable pub begins : ℕ → ℕ → Span → Bool
begins side c s = ltb s.lo (cover side c).lo

unfoldable pub ends : ℕ → ℕ → Span → Bool
ends side c s = ltb (cover side c).hi s.hi

-- how one column lies to another
pub data Place : Type 0 where
  before level after : Place

unfoldable pub place : ℕ → ℕ → Place
place c d = cond (ltb c d) before (cond (ltb d c) after level)

-- a tile before the point's gives only classes with end bit 0, one after only begin bit 0, one level with it all
abbrev pub gives : Place → Bool → Bool → Bool
gives before b e = not e
gives level b e = true
gives after b e = not b

-- a column drawn into a span's columns
unfoldable pub drawn : ℕ → ℕ → Span → ℕ
drawn side c s = max (s.lo / side) (min c (s.hi / side))

-- the join's rule, S's tile lying so to R's: level, unless both begin bits are 1; after, if R's end bit and S's begin bit are 0;
-- before, if R's begin bit and S's end bit are 0
abbrev pub joined : Place → Bool → Bool → Bool → Bool → Bool
joined level rb re sb se = not (rb && sb)
joined after rb re sb se = not re && not sb
joined before rb re sb se = not rb && not se
