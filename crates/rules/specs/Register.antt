-- The register: document 01, "Sizes and tables", and refusals 2 and 3. Every tile, class and distance is that of `rectangle`. Assumes nothing.
use Rattle.std.specs.Prelude.{Bool, ◌||◌, not, List, ℕ, ◌+◌, ◌*◌, ◌/◌, ◌%◌, leb, ltb, eqb, length, get_or}
use Rattle.laws.specs.Lists.{filter, up_to}
use Rattle.rules.specs.Sizes.{most_footprints, off_grid}
use Rattle.rules.specs.Span.{span}
use Rattle.rules.specs.declared.Grid.{Grid}
use Rattle.rules.specs.declared.Rect.{Rect}
use Rattle.rules.specs.declared.Span.{Span}

-- numbers a footprint has in the register
abbrev pub numbers : ℕ
numbers = 4

-- number k of footprint i
abbrev pub number : List ℕ → ℕ → ℕ → ℕ
number reg i k = get_or reg (numbers * i + k) 0

-- how many footprints there are
unfoldable pub count : List ℕ → ℕ
count reg = length reg / numbers

-- the footprints that lists, walks and joins speak of
unfoldable pub footprints : List ℕ → List ℕ
footprints reg = up_to (count reg)

-- the rectangle that stands in the register: xlo ylo xhi yhi
unfoldable pub recorded : List ℕ → ℕ → Rect
recorded reg i = record {
  x = span (number reg i 0) (number reg i 2);
  y = span (number reg i 1) (number reg i 3);
}

-- the rectangle of footprint i
unfoldable pub rectangle : Grid → List ℕ → ℕ → Rect
rectangle g reg i = recorded reg i

-- lo > hi, or hi off the grid
unfoldable pub bad_span : Grid → Span → Bool
bad_span g s = ltb s.hi s.lo || off_grid g s.hi

-- footprint i meets 3
unfoldable pub bad_footprint : Grid → List ℕ → ℕ → Bool
bad_footprint g reg i = bad_span g (recorded reg i).x || bad_span g (recorded reg i).y

-- all that meet 3, lowest first
unfoldable pub bad_footprints : Grid → List ℕ → List ℕ
bad_footprints g reg = filter (bad_footprint g reg) (footprints reg)

-- no entry may name i: it is not below the count, or its footprint would meet 3
unfoldable pub bad_entry : Grid → List ℕ → ℕ → Bool
bad_entry g reg i = leb (count reg) i || bad_footprint g reg i

-- the length is no multiple of a footprint's numbers, or there are over 65,536
unfoldable pub bad_register : List ℕ → Bool
bad_register reg = not (eqb (length reg % numbers) 0) || ltb most_footprints (count reg)
