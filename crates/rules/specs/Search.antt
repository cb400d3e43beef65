-- The radius search: its list by the steps, for tables of any origin, its promise, and the list that a register declares.
-- Document 01, "Classes and tile types" and "Refusal numbers". Assumes nothing.
use Rattle.std.specs.Prelude.{Bool, ◌&&◌, not, List, [], ◌∷◌, ℕ, ◌/◌, ◌%◌, ltb, eqb, length}
use Rattle.laws.specs.Lists.{filter, up_to, each}
use Rattle.rules.specs.Sizes.{most_radius, bad_sizes, bad_point, tiles}
use Rattle.rules.specs.Distance.{within, point, tile_rect}
use Rattle.rules.specs.Classes.{class_of, allowed_in, report_tile}
use Rattle.rules.specs.Register.{footprints, rectangle}
use Rattle.rules.specs.Tables.{Tables, bad_lengths, run_no, runs, tile_runs, run_at, good_runs}
use Rattle.rules.specs.Refusals.{Paper, paper, Verdict, pass, judge, unless, fit}
use Rattle.rules.specs.declared.Grid.{Grid}
use Rattle.rules.specs.declared.Point.{Point}
use Rattle.rules.specs.declared.Rect.{Rect}
use Rattle.rules.specs.declared.Refusal.TheVariants.{Sizes, Lengths, Place, Radius, Damage}

-- ---- what is read

-- run k is of a class that is allowed in its tile
unfoldable pub allowed_run : Grid → Point → ℕ → Bool
allowed_run g q k = allowed_in g q (k / 16) (k % 16)

-- a tile's runs of allowed classes
unfoldable pub allowed_runs : Grid → Point → ℕ → List ℕ
allowed_runs g q t = filter (allowed_run g q) (tile_runs t)

-- tiles of square over r×r are not visited
unfoldable pub visits : Grid → Point → ℕ → ℕ → Bool
visits g q r t = within r (point q) (tile_rect g t)

unfoldable pub visited : Grid → Point → ℕ → List ℕ
visited g q r = filter (visits g q r) (tiles g)

-- a search reads the allowed classes of visited tiles
unfoldable pub read_runs : Grid → Point → ℕ → List ℕ
read_runs g q r = each (allowed_runs g q) (visited g q r)

-- ---- the list by the steps

-- footprint i lies within r of the point
unfoldable pub is_hit : Grid → List ℕ → Point → ℕ → ℕ → Bool
is_hit g reg q r i = within r (point q) (rectangle g reg i)

unfoldable pub radius_hits : Grid → Tables → Point → ℕ → List ℕ
radius_hits g t q r = filter (is_hit g t.reg q r) (each (run_at t) (read_runs g q r))

-- the numbers that a hit writes, and how many they are
abbrev pub hit_numbers : ℕ
hit_numbers = 1

unfoldable pub hit_writes : Grid → List ℕ → Point → ℕ → List ℕ
hit_writes g reg q i = i ∷ []

-- ---- the promise: refusals 1, 2, 4, 5, 7, 6

-- all refusals but that for room
unfoldable pub search_verdict : Grid → Tables → Point → ℕ → Verdict
search_verdict g t q r =
    judge (bad_sizes g) Sizes
    (judge (bad_lengths g t) Lengths
    (judge (bad_point g q) Place
    (judge (ltb most_radius r) Radius
    (judge (not (good_runs g t (read_runs g q r))) Damage pass))))

-- the answer, and the output after a search
unfoldable pub searches : Grid → Tables → Point → ℕ → List ℕ → Paper × List ℕ
searches g t q r out =
    unless (search_verdict g t q r) (λ v. (paper v, out))
    (fit (length (radius_hits g t q r)) (each (hit_writes g t.reg q) (radius_hits g t q r)) out)

-- ---- what it is for a register: footprints ordered by reporting tile number, then class there, then number

-- the run that reports a rectangle: its reporting tile, and its class there
unfoldable pub report_run : Grid → Point → Rect → ℕ
report_run g q a = run_no (report_tile g q a) (class_of g (report_tile g q a) a)

-- footprint i is reported by run k, and is within r
unfoldable pub reported : Grid → List ℕ → Point → ℕ → ℕ → ℕ → Bool
reported g reg q r k i = eqb k (report_run g q (rectangle g reg i)) && is_hit g reg q r i

unfoldable pub declared_hits : Grid → List ℕ → Point → ℕ → List ℕ
declared_hits g reg q r = each (λ k. filter (reported g reg q r k) (footprints reg)) (up_to (runs g))
