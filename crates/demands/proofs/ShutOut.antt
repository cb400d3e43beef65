-- Wrong programs that no promise lets through, whatever their code: one that refuses always, one whose answer is constant, one that does
-- nothing. The starred cases tell them apart, and two of them as one list. Assumes nothing.
use mathlib.Core.Path.{◌≡◌, refl, sym, ap, ◌∙◌}
use mathlib.Core.List.{List, [], ◌∷◌, map}
use Prim.Native.Nat.{ℕ, ◌<◌}
use native.Mathlib.Omega.{arith}
use lib.ListN.{get_or, replicate}
use Rattle.rules.specs.Sizes.{bad_sizes, off_grid, bad_point, column, row_of, column_of, tile_count, tiles}
use Rattle.rules.specs.Span.{cover, gap, meets, begins, ends, place}
use Rattle.rules.specs.Distance.{square, within, point, tile_rect, shares}
use Rattle.rules.specs.Classes.{class_no, is_set, class_of, allowed, allowed_in}
use Rattle.rules.specs.Register.{count, footprints, recorded, rectangle, bad_span, bad_footprint, bad_footprints, bad_entry, bad_register}
use Rattle.rules.specs.Tables.{Tables, runs, run_no, tile_runs, run_start, run_end, run_at, bad_starts, bad_ends, bad_lengths, good_run, good_runs, stands, built_run, built_entries, built_starts, built_tables}
use Rattle.rules.specs.Refusals.{Paper, says, paper, paper_listed, paper_checked, paper_ends}
use Rattle.rules.specs.Build.{register_verdict, build_verdict, builds, is_built, checks, bad_run, run_verdict, run_ends}
use Rattle.rules.specs.Search.{allowed_run, allowed_runs, visits, visited, read_runs, is_hit, radius_hits, hit_writes, search_verdict, searches}
use Rattle.rules.specs.Probes.{probe_writes, probes_write, list_ends, probes_verdict, first_refused, lists_room, searches_all}
use Rattle.rules.specs.Join.{joins}
use Rattle.rules.specs.Walk.{begun, ask_verdict, asks}
use Rattle.rules.specs.Yard.{yard, Y, dig, built, pt, answered, Case, cases}
use Rattle.rules.specs.declared.Grid.{Grid}
use Rattle.rules.specs.declared.Point.{Point}
use Rattle.rules.specs.declared.Probe.{Probe}
use Rattle.rules.specs.declared.Walk.{Walk}
use Rattle.rules.proofs.Starred.{starred}

-- ---- cases of the table

abbrev none : Paper × List ℕ
none = (says 0 [], [])

-- case k
row : (k : ℕ) → get_or (map (λ (c : Case). answered c.asked) cases) k none ≡ get_or (map (λ (c : Case). c.answer) cases) k none
row k = ap (λ (l : List (Paper × List ℕ)). get_or l k none) starred

fits : (builds yard Y (replicate 257 7) (replicate 23 7)).0 ≡ says 0 (23 ∷ [])
unfolding cases answered
fits = ap (λ (t : Paper × List ℕ). t.0) (row 0)

too_short : (builds yard Y (replicate 257 7) (replicate 22 7)).0 ≡ says 6 (23 ∷ [])
unfolding cases answered
too_short = ap (λ (t : Paper × List ℕ). t.0) (row 1)

two_hits : searches yard (built Y) (pt 150 150) 69 (replicate 5 7) ≡ (says 0 (2 ∷ []), 0 ∷ 3 ∷ 7 ∷ 7 ∷ 7 ∷ [])
unfolding cases answered
two_hits = row 8

three_hits : searches yard (built Y) (pt 150 150) 70 (replicate 5 7) ≡ (says 0 (3 ∷ []), 0 ∷ 3 ∷ 1 ∷ 7 ∷ 7 ∷ [])
unfolding cases answered
three_hits = row 9

four_pairs : joins yard (built dig) (built Y) 100 (replicate 8 7) ≡ (says 0 (4 ∷ []), 0 ∷ 0 ∷ 0 ∷ 3 ∷ 0 ∷ 2 ∷ 0 ∷ 1 ∷ [])
unfolding cases answered
four_pairs = row 15

over_side : joins yard (built dig) (built Y) 101 (replicate 1 7) ≡ (says 5 [], 7 ∷ [])
unfolding cases answered
over_side = row 16

-- two searches as one list, at one point with the radii of these
abbrev two_probes : List Probe
two_probes = record { x = 150; y = 150; r = 69 } ∷ record { x = 150; y = 150; r = 70 } ∷ []

two_lists : searches_all yard (built Y) two_probes (replicate 6 7) (replicate 3 7)
    ≡ (says 0 (5 ∷ []), 0 ∷ 3 ∷ 0 ∷ 3 ∷ 1 ∷ 7 ∷ [], 2 ∷ 5 ∷ 7 ∷ [])
unfolding yard Y built bad_sizes off_grid bad_point column row_of column_of tile_count tiles cover gap meets begins ends place square within point tile_rect shares class_no is_set class_of allowed allowed_in count footprints recorded rectangle bad_span bad_footprint bad_entry bad_register runs tile_runs bad_starts bad_lengths run_start run_end run_at bad_ends good_run good_runs stands built_run built_entries built_starts built_tables paper_listed allowed_run allowed_runs visits visited read_runs is_hit radius_hits hit_writes search_verdict probe_writes probes_write list_ends probes_verdict first_refused lists_room searches_all
two_lists = refl

given_five : let b = begun yard (built Y) (pt 150 150) (replicate 75 7) in
    ((asks yard (built Y) b.2 b.1 7 (replicate 14 7)).0 ≡ says 0 (5 ∷ []))
    × ((asks yard (built Y) b.2 b.1 7 (replicate 14 7)).3 ≡ 0 ∷ 0 ∷ 3 ∷ 0 ∷ 1 ∷ 4900 ∷ 2 ∷ 4901 ∷ 4 ∷ 45000 ∷ 7 ∷ 7 ∷ 7 ∷ 7 ∷ [])
unfolding cases answered
given_five = (ap (λ (t : Paper × List ℕ). t.0) (row 12), ap (λ (t : Paper × List ℕ). t.1) (row 12))

started : (begun yard (built Y) (pt 150 150) (replicate 75 7)).0 ≡ says 0 (0 ∷ [])
unfolding cases answered
started = ap (λ (t : Paper × List ℕ). t.0) (row 13)

first_zero : get_or (begun yard (built Y) (pt 150 150) (replicate 75 7)).2 0 0 ≡ 0
unfolding cases answered
first_zero = ap (λ (t : Paper × List ℕ). get_or t.1 0 0) (row 13)

one_short : (begun yard (built Y) (pt 150 150) (replicate 74 7)).0 ≡ says 6 (75 ∷ [])
unfolding cases answered
one_short = ap (λ (t : Paper × List ℕ). t.0) (row 14)

-- ---- a grid of no tiles, and a grid of one

abbrev nowhere : Grid
nowhere = record { n = 0; side = 1 }

abbrev smallest : Grid
smallest = record { n = 1; side = 1 }

built_smallest : get_or (builds smallest [] (replicate 17 7) []).1 0 1 ≡ 0
unfolding builds build_verdict register_verdict bad_sizes bad_lengths bad_register count footprints bad_footprints bad_starts runs tile_count built_run built_entries built_starts
built_smallest = refl

checked_nowhere : checks nowhere [] [] [] ≡ says 1 []
unfolding checks register_verdict bad_sizes paper
checked_nowhere = refl

checked_smallest : checks smallest [] (replicate 17 0) [] ≡ says 0 (1 ∷ [])
unfolding checks is_built register_verdict bad_sizes bad_lengths bad_register count footprints bad_footprints bad_starts runs tile_count built_run built_entries built_starts paper_checked
checked_smallest = refl

run_nowhere : run_ends nowhere [] 0 0 0 ≡ says 1 []
unfolding run_ends run_verdict bad_sizes paper
run_nowhere = refl

run_smallest : run_ends smallest (replicate 17 0) 0 0 0 ≡ says 0 (0 ∷ 0 ∷ [])
unfolding run_ends run_verdict bad_sizes bad_starts runs tile_count bad_run bad_ends run_no run_start run_end paper_ends
run_smallest = refl

all_nowhere : (t : Tables) (ps : List Probe) (out ends : List ℕ) → (searches_all nowhere t ps out ends).0 ≡ says 1 (0 ∷ [])
unfolding searches_all probes_verdict bad_sizes paper_listed paper
all_nowhere t ps out ends = refl

asked_nowhere : (t : Tables) (front : List ℕ) (w : Walk) (j : ℕ) (out : List ℕ) → (asks nowhere t front w j out).0 ≡ says 1 []
unfolding asks ask_verdict bad_sizes paper
asked_nowhere t front w j out = refl

-- ---- what a wrong program would say

absurd_number : {k m : ℕ} → k < m → k ≡ m → ⊥
absurd_number h e = let x : ⊥ = omega arith in x

-- two papers of different numbers are no constant
two_papers : {p a b : Paper} → a.number < b.number → a ≡ p → b ≡ p → ⊥
two_papers {a = a} {b = b} h u v = absurd_number {k = a.number} {m = b.number} h (ap (λ (p : Paper). p.number) (u ∙ sym v))

-- the build
pub build_not_refusing : ((g : Grid) (reg starts entries : List ℕ) → (builds g reg starts entries).0.number ≡ 0 → ⊥) → ⊥
build_not_refusing h = h yard Y (replicate 257 7) (replicate 23 7) (ap (λ (p : Paper). p.number) fits)

pub build_not_constant : (p : Paper) → ((g : Grid) (reg starts entries : List ℕ) → (builds g reg starts entries).0 ≡ p) → ⊥
build_not_constant p h =
    two_papers {a = says 0 (23 ∷ [])} {b = says 6 (23 ∷ [])} (omega arith)
    (sym fits ∙ h yard Y (replicate 257 7) (replicate 23 7)) (sym too_short ∙ h yard Y (replicate 257 7) (replicate 22 7))

pub build_not_idle : ((g : Grid) (reg starts entries : List ℕ) → (builds g reg starts entries).1 ≡ starts) → ⊥
build_not_idle h =
    absurd_number {k = 0} {m = 7} (omega arith) (sym built_smallest ∙ ap (λ (l : List ℕ). get_or l 0 1) (h smallest [] (replicate 17 7) []))

-- the check
pub check_not_refusing : ((g : Grid) (reg starts entries : List ℕ) → (checks g reg starts entries).number ≡ 0 → ⊥) → ⊥
check_not_refusing h = h smallest [] (replicate 17 0) [] (ap (λ (p : Paper). p.number) checked_smallest)

pub check_not_constant : (p : Paper) → ((g : Grid) (reg starts entries : List ℕ) → checks g reg starts entries ≡ p) → ⊥
check_not_constant p h =
    two_papers {a = says 0 (1 ∷ [])} {b = says 1 []} (omega arith)
    (sym checked_smallest ∙ h smallest [] (replicate 17 0) []) (sym checked_nowhere ∙ h nowhere [] [] [])

-- a run
pub run_not_refusing : ((g : Grid) (starts : List ℕ) (entries t class : ℕ) → (run_ends g starts entries t class).number ≡ 0 → ⊥) → ⊥
run_not_refusing h = h smallest (replicate 17 0) 0 0 0 (ap (λ (p : Paper). p.number) run_smallest)

pub run_not_constant : (p : Paper) → ((g : Grid) (starts : List ℕ) (entries t class : ℕ) → run_ends g starts entries t class ≡ p) → ⊥
run_not_constant p h =
    two_papers {a = says 0 (0 ∷ 0 ∷ [])} {b = says 1 []} (omega arith)
    (sym run_smallest ∙ h smallest (replicate 17 0) 0 0 0) (sym run_nowhere ∙ h nowhere [] 0 0 0)

-- the search
pub search_not_refusing : ((g : Grid) (t : Tables) (q : Point) (r : ℕ) (out : List ℕ) → (searches g t q r out).0.number ≡ 0 → ⊥) → ⊥
search_not_refusing h = h yard (built Y) (pt 150 150) 69 (replicate 5 7) (ap (λ (t : Paper × List ℕ). t.0.number) two_hits)

pub search_not_constant : (p : Paper) → ((g : Grid) (t : Tables) (q : Point) (r : ℕ) (out : List ℕ) → (searches g t q r out).0 ≡ p) → ⊥
search_not_constant p h =
    absurd_number {k = 2} {m = 3} (omega arith)
    (ap (λ (p : Paper). get_or p.values 0 0)
    (ap (λ (t : Paper × List ℕ). t.0) (sym two_hits) ∙ h yard (built Y) (pt 150 150) 69 (replicate 5 7)
    ∙ sym (h yard (built Y) (pt 150 150) 70 (replicate 5 7)) ∙ ap (λ (t : Paper × List ℕ). t.0) three_hits))

pub search_not_idle : ((g : Grid) (t : Tables) (q : Point) (r : ℕ) (out : List ℕ) → (searches g t q r out).1 ≡ out) → ⊥
search_not_idle h =
    absurd_number {k = 0} {m = 7} (omega arith)
    (ap (λ (l : List ℕ). get_or l 0 1)
    (ap (λ (t : Paper × List ℕ). t.1) (sym two_hits) ∙ h yard (built Y) (pt 150 150) 69 (replicate 5 7)))

-- a list of searches
pub search_all_not_refusing : ((g : Grid) (t : Tables) (ps : List Probe) (out ends : List ℕ) → (searches_all g t ps out ends).0.number ≡ 0 → ⊥) → ⊥
search_all_not_refusing h =
    h yard (built Y) two_probes (replicate 6 7) (replicate 3 7) (ap (λ (t : Paper × List ℕ × List ℕ). t.0.number) two_lists)

pub search_all_not_constant : (p : Paper) → ((g : Grid) (t : Tables) (ps : List Probe) (out ends : List ℕ) → (searches_all g t ps out ends).0 ≡ p) → ⊥
search_all_not_constant p h =
    two_papers {a = says 0 (5 ∷ [])} {b = says 1 (0 ∷ [])} (omega arith)
    (ap (λ (t : Paper × List ℕ × List ℕ). t.0) (sym two_lists) ∙ h yard (built Y) two_probes (replicate 6 7) (replicate 3 7))
    (sym (all_nowhere (built Y) [] [] []) ∙ h nowhere (built Y) [] [] [])

pub search_all_not_idle : ((g : Grid) (t : Tables) (ps : List Probe) (out ends : List ℕ) → (searches_all g t ps out ends).1 ≡ out) → ⊥
search_all_not_idle h =
    absurd_number {k = 0} {m = 7} (omega arith)
    (ap (λ (l : List ℕ). get_or l 0 1)
    (ap (λ (t : Paper × List ℕ × List ℕ). t.1) (sym two_lists) ∙ h yard (built Y) two_probes (replicate 6 7) (replicate 3 7)))

-- nor does one pass that leaves the ends alone
pub search_all_not_endless : ((g : Grid) (t : Tables) (ps : List Probe) (out ends : List ℕ) → (searches_all g t ps out ends).2 ≡ ends) → ⊥
search_all_not_endless h =
    absurd_number {k = 2} {m = 7} (omega arith)
    (ap (λ (l : List ℕ). get_or l 0 1)
    (ap (λ (t : Paper × List ℕ × List ℕ). t.2) (sym two_lists) ∙ h yard (built Y) two_probes (replicate 6 7) (replicate 3 7)))

-- the join
pub join_not_refusing : ((g : Grid) (tr ts : Tables) (r : ℕ) (out : List ℕ) → (joins g tr ts r out).0.number ≡ 0 → ⊥) → ⊥
join_not_refusing h = h yard (built dig) (built Y) 100 (replicate 8 7) (ap (λ (t : Paper × List ℕ). t.0.number) four_pairs)

pub join_not_constant : (p : Paper) → ((g : Grid) (tr ts : Tables) (r : ℕ) (out : List ℕ) → (joins g tr ts r out).0 ≡ p) → ⊥
join_not_constant p h =
    two_papers {a = says 0 (4 ∷ [])} {b = says 5 []} (omega arith)
    (ap (λ (t : Paper × List ℕ). t.0) (sym four_pairs) ∙ h yard (built dig) (built Y) 100 (replicate 8 7))
    (ap (λ (t : Paper × List ℕ). t.0) (sym over_side) ∙ h yard (built dig) (built Y) 101 (replicate 1 7))

pub join_not_idle : ((g : Grid) (tr ts : Tables) (r : ℕ) (out : List ℕ) → (joins g tr ts r out).1 ≡ out) → ⊥
join_not_idle h =
    absurd_number {k = 0} {m = 7} (omega arith)
    (ap (λ (l : List ℕ). get_or l 0 1)
    (ap (λ (t : Paper × List ℕ). t.1) (sym four_pairs) ∙ h yard (built dig) (built Y) 100 (replicate 8 7)))

-- a start
pub start_not_refusing : ((g : Grid) (t : Tables) (q : Point) (front : List ℕ) → (begun g t q front).0.number ≡ 0 → ⊥) → ⊥
start_not_refusing h = h yard (built Y) (pt 150 150) (replicate 75 7) (ap (λ (p : Paper). p.number) started)

pub start_not_constant : (p : Paper) → ((g : Grid) (t : Tables) (q : Point) (front : List ℕ) → (begun g t q front).0 ≡ p) → ⊥
start_not_constant p h =
    two_papers {a = says 0 (0 ∷ [])} {b = says 6 (75 ∷ [])} (omega arith)
    (sym started ∙ h yard (built Y) (pt 150 150) (replicate 75 7)) (sym one_short ∙ h yard (built Y) (pt 150 150) (replicate 74 7))

pub start_not_idle : ((g : Grid) (t : Tables) (q : Point) (front : List ℕ) → (begun g t q front).2 ≡ front) → ⊥
start_not_idle h =
    absurd_number {k = 0} {m = 7} (omega arith)
    (sym first_zero ∙ ap (λ (l : List ℕ). get_or l 0 0) (h yard (built Y) (pt 150 150) (replicate 75 7)))

-- an ask
pub ask_not_refusing : ((g : Grid) (t : Tables) (front : List ℕ) (w : Walk) (j : ℕ) (out : List ℕ) → (asks g t front w j out).0.number ≡ 0 → ⊥) → ⊥
ask_not_refusing h =
    let b = begun yard (built Y) (pt 150 150) (replicate 75 7) in
    h yard (built Y) b.2 b.1 7 (replicate 14 7) (ap (λ (p : Paper). p.number) given_five.0)

pub ask_not_constant : (p : Paper) → ((g : Grid) (t : Tables) (front : List ℕ) (w : Walk) (j : ℕ) (out : List ℕ) → (asks g t front w j out).0 ≡ p) → ⊥
ask_not_constant p h =
    let b = begun yard (built Y) (pt 150 150) (replicate 75 7) in
    two_papers {a = says 0 (5 ∷ [])} {b = says 1 []} (omega arith)
    (sym given_five.0 ∙ h yard (built Y) b.2 b.1 7 (replicate 14 7))
    (sym (asked_nowhere (built Y) [] b.1 0 []) ∙ h nowhere (built Y) [] b.1 0 [])

pub ask_not_idle : ((g : Grid) (t : Tables) (front : List ℕ) (w : Walk) (j : ℕ) (out : List ℕ) → (asks g t front w j out).3 ≡ out) → ⊥
ask_not_idle h =
    let b = begun yard (built Y) (pt 150 150) (replicate 75 7) in
    absurd_number {k = 0} {m = 7} (omega arith)
    (ap (λ (l : List ℕ). get_or l 0 1) (sym given_five.1 ∙ h yard (built Y) b.2 b.1 7 (replicate 14 7)))
