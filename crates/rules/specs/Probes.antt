-- A list of searches: what all of them write, where each list ends, which probe is refused first, and the promise.
-- Document 02, ticket 1. Every list is that of the single search, of `Search`. Assumes nothing.
use Rattle.std.specs.Prelude.{◌||◌, List, [], ◌∷◌, ℕ, suc, ◌+◌, ltb, length, Ok, Err}
use Rattle.std.proofs.Math.Option.{Option, none, some}
use Rattle.laws.specs.Lists.{each, over}
use Rattle.rules.specs.Sizes.{bad_sizes}
use Rattle.rules.specs.Tables.{Tables, bad_lengths}
use Rattle.rules.specs.Refusals.{Paper, paper_listed, Verdict, pass, judge, unless, judge_room}
use Rattle.rules.specs.Search.{radius_hits, hit_writes, search_verdict}
use Rattle.rules.specs.declared.Grid.{Grid}
use Rattle.rules.specs.declared.Point.{Point}
use Rattle.rules.specs.declared.Probe.{Probe}
use Rattle.rules.specs.declared.Refusal.{Refusal}
use Rattle.rules.specs.declared.Refusal.TheVariants.{Sizes, Lengths}
use Rattle.rules.specs.declared.ListRefusal.TheVariants.{At, Whole}

-- a list has at most 65,536 probes
abbrev pub most_probes : ℕ
most_probes = 65536

-- the point of a probe
abbrev pub point_of : Probe → Point
point_of p = record { x = p.x; y = p.y }

-- ---- what is written

-- the numbers of a probe's list
unfoldable pub probe_writes : Grid → Tables → Probe → List ℕ
probe_writes g t p = each (hit_writes g t.reg (point_of p)) (radius_hits g t (point_of p) p.r)

-- all lists, one behind the other
unfoldable pub probes_write : Grid → Tables → List Probe → List ℕ
probes_write g t ps = each (probe_writes g t) ps

-- each list's end, its place in the output, where the first list begins at place a
unfoldable pub list_ends : Grid → Tables → ℕ → List Probe → List ℕ
list_ends g t a [] = []
list_ends g t a (p ∷ ps) = (a + length (probe_writes g t p)) ∷ list_ends g t (a + length (probe_writes g t p)) ps

-- ---- refusals: 1 and 2 before all probes; the first probe that is refused, room apart; 6 for the total, then for the ends

-- sizes and lengths, also of the list of probes
unfoldable pub probes_verdict : Grid → Tables → ℕ → Verdict
probes_verdict g t count = judge (bad_sizes g) Sizes (judge (bad_lengths g t || ltb most_probes count) Lengths pass)

-- the first probe that a single search would refuse, room apart: its refusal and its index, where the first of these has index i
unfoldable pub first_refused : Grid → Tables → ℕ → List Probe → Option (Refusal × ℕ)
first_refused g t i [] = none
first_refused g t i (p ∷ ps) = unless (search_verdict g t (point_of p) p.r) (λ why. some (why, i)) (first_refused g t (suc i) ps)

-- what a refused probe gives, or what comes where none is refused
abbrev pub unless_at {ℓ} : {A : Type ℓ} → Option (Refusal × ℕ) → (Refusal → ℕ → A) → A → A
unless_at none refusal after = after
unless_at (some w) refusal after = refusal w.0 w.1

-- so many numbers for the lists, and so many ends, find room
unfoldable pub lists_room : ℕ → ℕ → List ℕ → List ℕ → Verdict
lists_room total count out ends = judge_room total out (judge_room count ends pass)

-- ---- the promise: the answer, the output and the ends

unfoldable pub searches_all : Grid → Tables → List Probe → List ℕ → List ℕ → Paper × List ℕ × List ℕ
searches_all g t ps out ends =
    unless (probes_verdict g t (length ps)) (λ why. (paper_listed (Err (At why 0)), out, ends))
    (unless_at (first_refused g t 0 ps) (λ why i. (paper_listed (Err (At why i)), out, ends))
    (unless (lists_room (length (probes_write g t ps)) (length ps) out ends) (λ why. (paper_listed (Err (Whole why)), out, ends))
    (paper_listed (Ok (length (probes_write g t ps))), over (probes_write g t ps) out, over (list_ends g t 0 ps) ends)))
