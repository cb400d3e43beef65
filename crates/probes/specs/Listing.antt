-- A pass over a list of probes: what is listed so far, and what is lent for the lists and for their ends. Assumes nothing.
use Rattle.std.specs.Prelude.{cond, List, ◌++◌, ℕ, zero, suc, ◌+◌, ◌*◌, leb, length, get_or, set, take, drop, Result, Ok, Err}
use Rattle.laws.specs.Lists.{over}
use Rattle.rules.specs.Sizes.{most_tiles, most_entries}
use Rattle.rules.specs.Tables.{Tables}
use Rattle.rules.specs.Refusals.{unless}
use Rattle.rules.specs.Search.{hit_numbers, search_verdict}
use Rattle.rules.specs.Probes.{point_of, probe_writes}
use Rattle.rules.specs.declared.Grid.{Grid}
use Rattle.rules.specs.declared.Probe.{Probe}
use Rattle.rules.specs.declared.Refusal.{Refusal}
use Rattle.rules.specs.declared.Refusal.TheVariants.{Sizes, Lengths, Footprint, Place, Radius, Damage, Room, Text}
use Rattle.rules.specs.declared.ListRefusal.{ListRefusal}
use Rattle.rules.specs.declared.ListRefusal.TheVariants.{At}

-- what is listed so far: so many numbers, or why the list is refused
abbrev pub Listed : Type 0
Listed = Result ℕ ListRefusal

-- ---- one probe

-- the numbers w at place a of what is lent, where they find room there
unfoldable pub keep_at : ℕ → List ℕ → List ℕ → List ℕ
keep_at a w lent = cond (leb (a + length w) (length lent)) (take a lent ++ over w (drop a lent)) lent

-- the search of probe p, the one with index i, behind so many numbers: the numbers of its list, or its refusal; and what is lent, where its list
-- stands if it finds room
unfoldable pub list_at : Grid → Tables → Probe → ℕ → ℕ → List ℕ → Listed × List ℕ
list_at g t p i total lent =
    unless (search_verdict g t (point_of p) p.r) (λ why. (Err (At why i), lent))
    (Ok (length (probe_writes g t p)), keep_at total (probe_writes g t p) lent)

-- what a pass has: what is listed so far, the lists and their ends
abbrev pub Pass : Type 0
Pass = Listed × List ℕ × List ℕ

-- search i added behind so many numbers, with its end; or its refusal
abbrev pub added : ℕ → ℕ → List ℕ → Listed → List ℕ → Pass
added total i ends (Ok more) lent = (Ok (total + more), lent, set ends i (total + more))
added total i ends (Err why) lent = (Err why, lent, ends)

-- probe p, the one with index i: its list behind the others, and its end; or its refusal. Once one is refused, nothing more is done
unfoldable pub list_one : Grid → Tables → Probe → ℕ → Listed → List ℕ → List ℕ → Pass
list_one g t p i (Ok total) lent ends = added total i ends (list_at g t p i total lent).0 (list_at g t p i total lent).1
list_one g t p i (Err why) lent ends = (Err why, lent, ends)

-- the numbers that a search's answer counts: those that it wrote, or would write had it found room; or its refusal
unfoldable pub counted_refused : Refusal → ℕ → Listed
counted_refused Sizes i = Err (At Sizes i)
counted_refused Lengths i = Err (At Lengths i)
counted_refused (Footprint k) i = Err (At (Footprint k) i)
counted_refused Place i = Err (At Place i)
counted_refused Radius i = Err (At Radius i)
counted_refused Damage i = Err (At Damage i)
counted_refused (Room need) i = Ok need
counted_refused (Text line) i = Err (At (Text line) i)

unfoldable pub counted : Result ℕ Refusal → ℕ → Listed
counted (Ok hits) i = Ok (hit_numbers * hits)
counted (Err why) i = counted_refused why i

-- ---- all probes

-- what stands past the end of a list of probes
abbrev pub no_probe : Probe
no_probe = record { x = 0; y = 0; r = 0 }

-- k probes, from index i on
unfoldable pub list_from : Grid → Tables → List Probe → ℕ → ℕ → Pass → Pass
list_from g t ps zero i s = s
list_from g t ps (suc k) i s = list_from g t ps k (suc i) (list_one g t (get_or ps i no_probe) i s.0 s.1 s.2)

-- all probes, where nothing is listed yet
unfoldable pub list_all : Grid → Tables → List Probe → List ℕ → List ℕ → Pass
list_all g t ps lent ends = list_from g t ps (length ps) 0 (Ok 0, lent, ends)

-- ---- totals

-- the most numbers that a list can have
abbrev pub list_most : ℕ
list_most = hit_numbers * (most_tiles * (most_tiles * (16 * most_entries)))

-- the numbers listed so far
abbrev pub so_far_of : Listed → ℕ
so_far_of (Ok total) = total
so_far_of (Err why) = 0
