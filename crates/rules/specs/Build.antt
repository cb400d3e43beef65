-- The promises of the build, of the check and of the run: document 01, "Sizes and tables", "Classes and tile types", "Refusal numbers".
-- Assumes nothing.
use Rattle.std.specs.Prelude.{Bool, ◌&&◌, ◌||◌, List, [], ℕ, ◌+◌, ◌*◌, leb, length, take, Ok}
use Rattle.laws.specs.Lists.{over, same, part}
use Rattle.rules.specs.Sizes.{bad_sizes, tile_count}
use Rattle.rules.specs.Register.{bad_footprints}
use Rattle.rules.specs.Tables.{tables, bad_lengths, bad_starts, bad_ends, run_no, run_start, run_end, built_entries, built_starts}
use Rattle.rules.specs.Refusals.{Paper, paper, paper_answer, paper_checked, paper_ends, Verdict, pass, judge, judge_footprints, judge_room, unless}
use Rattle.rules.specs.declared.Grid.{Grid}
use Rattle.rules.specs.declared.Refusal.TheVariants.{Sizes, Lengths, Place, Damage}

-- refusals 1, 2, 3: what build and check judge of the register
unfoldable pub register_verdict : Grid → List ℕ → List ℕ → Verdict → Verdict
register_verdict g reg starts v =
    judge (bad_sizes g) Sizes (judge (bad_lengths g (tables reg starts [])) Lengths (judge_footprints (bad_footprints g reg) v))

-- ---- build: refusals 1, 2, 3, 6

unfoldable pub build_verdict : Grid → List ℕ → List ℕ → List ℕ → Verdict
build_verdict g reg starts entries = register_verdict g reg starts (judge_room (length (built_entries g reg)) entries pass)

-- the answer, the starts and the entries after a build
unfoldable pub builds : Grid → List ℕ → List ℕ → List ℕ → Paper × List ℕ × List ℕ
builds g reg starts entries =
    unless (build_verdict g reg starts entries) (λ r. (paper r, starts, entries))
    (paper_answer (Ok (length (built_entries g reg))), built_starts g reg, over (built_entries g reg) entries)

-- ---- check: refusals 1, 2, 3; it writes nothing

-- starts and counted entries are what the build leaves
unfoldable pub is_built : Grid → List ℕ → List ℕ → List ℕ → Bool
is_built g reg starts entries =
    same starts (built_starts g reg) && same (take (length (built_entries g reg)) entries) (built_entries g reg)

unfoldable pub checks : Grid → List ℕ → List ℕ → List ℕ → Paper
checks g reg starts entries =
    unless (register_verdict g reg starts pass) paper (paper_checked (Ok (is_built g reg starts entries)))

-- ---- a run among so many lent entries: refusals 1, 2, 4, 7

-- no such tile or class
unfoldable pub bad_run : Grid → ℕ → ℕ → Bool
bad_run g t class = leb (tile_count g) t || leb 16 class

unfoldable pub run_verdict : Grid → List ℕ → ℕ → ℕ → ℕ → Verdict
run_verdict g starts entries t class =
    judge (bad_sizes g) Sizes
    (judge (bad_starts g starts) Lengths
    (judge (bad_run g t class) Place
    (judge (bad_ends entries (run_start starts (run_no t class)) (run_end starts (run_no t class))) Damage pass)))

-- where the run begins and ends
unfoldable pub run_ends : Grid → List ℕ → ℕ → ℕ → ℕ → Paper
run_ends g starts entries t class =
    unless (run_verdict g starts entries t class) paper (paper_ends (Ok (record { begin = run_start starts (run_no t class); past = run_end starts (run_no t class) })))

-- where the part that is handed back begins: every refusal gives the entries' beginning
unfoldable pub run_place : Grid → List ℕ → ℕ → ℕ → ℕ → ℕ
run_place g starts entries t class = unless (run_verdict g starts entries t class) (λ _. 0) (run_start starts (run_no t class))

-- what it holds: every refusal gives the empty part
unfoldable pub run_part : Grid → List ℕ → List ℕ → ℕ → ℕ → List ℕ
run_part g starts entries t class =
    unless (run_verdict g starts (length entries) t class) (λ _. []) (part entries (run_start starts (run_no t class)) (run_end starts (run_no t class)))

-- the caller's memory from a place on, four bytes a number
abbrev pub shifted : ℕ → ℕ × ℕ → ℕ × ℕ
shifted place ptr = (ptr.0, place * 4 + ptr.1)

-- the part as the caller holds it: its pointer and its numbers
unfoldable pub hands_back : Grid → List ℕ → List ℕ → ℕ → ℕ → ℕ × ℕ → (ℕ × ℕ) × List ℕ
hands_back g starts entries t class ptr = (shifted (run_place g starts (length entries) t class) ptr, run_part g starts entries t class)
