-- The text register, pinned by texts: good ones with what they say, one for each kind of bad or missing line, the program's limits, and case P.
-- Assumes nothing.
use mathlib.Core.Path.{◌≡◌, refl}
use mathlib.Core.List.{List, [], ◌∷◌, ◌++◌, map}
use Prim.Native.Nat.{ℕ, ◌≤◌}
use lib.ListN.{length}
use borrow.Author.Tests.{lt-ltb, le-ltb}
use Rattle.laws.specs.Lists.{each}
use Rattle.rules.specs.Sizes.{bad_sizes, off_grid, bad_point, column, tile_no, row_of, column_of, tile_count, tiles, tile_of}
use Rattle.rules.specs.Span.{cover, gap, meets, begins, ends, place, drawn}
use Rattle.rules.specs.Distance.{square, within, point, tile_rect, shares}
use Rattle.rules.specs.Classes.{class_no, is_set, class_of, allowed, allowed_in}
use Rattle.rules.specs.Register.{count, footprints, recorded, rectangle, bad_span, bad_footprint, bad_footprints, bad_entry, bad_register}
use Rattle.rules.specs.Tables.{run_no, runs, tile_runs, bad_starts, bad_lengths, run_start, run_end, run_at, bad_ends, good_run, good_runs, stands, built_run, built_entries, built_starts}
use Rattle.rules.specs.Refusals.{Verdict, pass, refuse, paper, paper_answer}
use Rattle.rules.specs.Build.{register_verdict, build_verdict, builds}
use Rattle.rules.specs.Search.{allowed_run, allowed_runs, visits, visited, read_runs, is_hit, radius_hits, hit_writes, search_verdict, searches}
use Rattle.rules.specs.Yard.{Y}
use Rattle.rules.specs.Text.{Key, Start, Tiles, Side, Xlo, Ylo, Xhi, Yhi, X, Y as YKey, R, word, lines, is_digit, digits, after_digits, value, is_decimal, is_number, follow, may_end, ends_footprint, begins_with, numbered, read, stopped, tells, judged, sheet_grid, sheet_register, in_threes, sheet_questions, spelled, decimal, line_of, refusal_text, hit_text, hit_of, hits_text, answer_text, questions_text, built_text, sheet_verdict, sheet_text, told_text, printed, found_word, refused_word, most_bytes}
use Rattle.rules.specs.declared.Grid.{Grid}
use Rattle.rules.specs.declared.Refusal.TheVariants.{Sizes, Lengths, Text}

-- ---- texts

abbrev grid : ℕ → ℕ → Grid
grid n side = record { n = n; side = side }

unfoldable pub line : Key × ℕ → List ℕ
line a = line_of (word a.0) a.1

unfoldable pub sizes : ℕ → ℕ → List ℕ
sizes n side = line (Tiles, n) ++ line (Side, side)

unfoldable pub footprint : ℕ → ℕ → ℕ → ℕ → List ℕ
footprint a b c d = each line ((Xlo, a) ∷ (Ylo, b) ∷ (Xhi, c) ∷ (Yhi, d) ∷ [])

unfoldable pub question : ℕ → ℕ → ℕ → List ℕ
question x y r = each line ((X, x) ∷ (YKey, y) ∷ (R, r) ∷ [])

-- the grid, the footprints and the question of case P
unfoldable pub case_p : List ℕ
case_p =
    sizes 4 100 ++ footprint 120 120 180 180 ++ footprint 50 220 250 260 ++ footprint 199 200 200 299 ++ footprint 0 0 399 399
    ++ footprint 300 300 300 300
    ++ question 150 150 70

-- ---- the text is judged whole

-- texts, and the refusal of each
unfoldable pub texts : List (List ℕ × Verdict)
texts =
    -- empty text is line 1
    ([], refuse (Text 1))
    -- no footprint and no question are allowed
    ∷ (sizes 4 100, pass)
    ∷ (case_p, pass)
    -- text that ends early names its number of lines plus one
    ∷ (line (Tiles, 4), refuse (Text 2))
    ∷ (sizes 4 100 ++ line (Xlo, 1), refuse (Text 4))
    ∷ (sizes 4 100 ++ line (X, 1) ++ line (YKey, 1), refuse (Text 5))
    -- x=0 without LF is bad under its own number
    ∷ (sizes 4 100 ++ (120 ∷ 61 ∷ 48 ∷ []), refuse (Text 3))
    -- CR, a space, a sign, capitals, an empty line
    ∷ (sizes 4 100 ++ (120 ∷ 61 ∷ 48 ∷ 13 ∷ 10 ∷ []), refuse (Text 3))
    ∷ (sizes 4 100 ++ (120 ∷ 61 ∷ 32 ∷ 48 ∷ 10 ∷ []), refuse (Text 3))
    ∷ (sizes 4 100 ++ (120 ∷ 61 ∷ 45 ∷ 49 ∷ 10 ∷ []), refuse (Text 3))
    ∷ (sizes 4 100 ++ (88 ∷ 61 ∷ 49 ∷ 10 ∷ []), refuse (Text 3))
    ∷ ((10 ∷ []) ++ sizes 4 100, refuse (Text 1))
    ∷ (sizes 4 100 ++ (10 ∷ []), refuse (Text 3))
    -- no digit, 8 digits, leading zeros
    ∷ (sizes 4 100 ++ (120 ∷ 61 ∷ 10 ∷ []), refuse (Text 3))
    ∷ (sizes 4 12345678, refuse (Text 2))
    ∷ (sizes 4 1234567, pass)
    ∷ ((116 ∷ 105 ∷ 108 ∷ 101 ∷ 115 ∷ 61 ∷ 48 ∷ 52 ∷ 10 ∷ []) ++ line (Side, 100), refuse (Text 1))
    ∷ ((116 ∷ 105 ∷ 108 ∷ 101 ∷ 115 ∷ 61 ∷ 48 ∷ 48 ∷ 10 ∷ []) ++ line (Side, 100), refuse (Text 1))
    -- a footprint behind a question, a question's line out of order
    ∷ (sizes 4 100 ++ question 1 1 1 ++ footprint 1 1 2 2, refuse (Text 6))
    ∷ (sizes 4 100 ++ line (X, 1) ++ line (R, 1), refuse (Text 4))
    ∷ []

pub texts_judged : map (λ (c : List ℕ × Verdict). (judged c.0).verdict) texts ≡ map (λ (c : List ℕ × Verdict). c.1) texts
unfolding texts line sizes footprint question case_p word lines is_digit digits after_digits value is_decimal is_number follow may_end ends_footprint begins_with numbered read tells judged spelled decimal line_of
texts_judged = refl

-- 65,537 bytes are line 0 before all else, 65,536 are judged
pub too_many_bytes : (text : List ℕ) → 65537 ≤ length text → judged text ≡ stopped (refuse (Text 0))
unfolding judged
too_many_bytes text h = rw (lt-ltb most_bytes (length text) h)

pub enough_bytes : (text : List ℕ) → length text ≤ 65536 → judged text ≡ tells Start 1 (lines text)
unfolding judged
enough_bytes text h = rw (le-ltb most_bytes (length text) h)

-- ---- what is read

pub case_p_told : sheet_register (judged case_p) ≡ Y
unfolding Y sheet_register line sizes footprint question case_p word lines is_digit digits after_digits value is_decimal is_number follow may_end ends_footprint begins_with numbered read tells judged spelled decimal line_of
case_p_told = refl

-- ---- the program's limits

-- n 16 and 17, 512 footprints and 513; sizes come first
pub limits :
    sheet_verdict (grid 16 1) 512 ∷ sheet_verdict (grid 17 1) 0 ∷ sheet_verdict (grid 16 1) 513 ∷ sheet_verdict (grid 16 0) 513 ∷ []
    ≡ pass ∷ refuse Sizes ∷ refuse Lengths ∷ refuse Sizes ∷ []
unfolding sheet_verdict bad_sizes
limits = refl

-- ---- what is printed

-- the bytes themselves: refused=8, line=1
pub empty_printed : printed [] ≡ 114 ∷ 101 ∷ 102 ∷ 117 ∷ 115 ∷ 101 ∷ 100 ∷ 61 ∷ 56 ∷ 10 ∷ 108 ∷ 105 ∷ 110 ∷ 101 ∷ 61 ∷ 49 ∷ 10 ∷ []
unfolding lines may_end tells judged spelled decimal line_of refusal_text paper told_text printed
empty_printed = refl

-- texts, and what the program prints for each
unfoldable pub prints : List (List ℕ × List ℕ)
prints =
    -- no question prints nothing; a question without hits prints found=0
    (sizes 4 100, [])
    ∷ (sizes 4 100 ++ question 150 150 2097151, line_of found_word 0)
    -- 1, 3, 4 and 5 are printed without a value, and what earlier questions printed stands
    ∷ (sizes 17 100, line_of refused_word 1)
    ∷ (sizes 4 100 ++ footprint 0 0 400 0 ++ question 400 0 0, line_of refused_word 3)
    ∷ (sizes 4 100 ++ question 1 1 0 ++ question 400 0 0 ++ question 1 1 1, line_of found_word 0 ++ line_of refused_word 4)
    ∷ (sizes 4 100 ++ question 1 1 2097152, line_of refused_word 5)
    -- case P, the footprints of yard Y
    ∷ (case_p, line_of found_word 3 ++ hit_text 0 0 ++ hit_text 3 0 ++ hit_text 1 4900)
    ∷ []

pub all_printed : map (λ (c : List ℕ × List ℕ). printed c.0) prints ≡ map (λ (c : List ℕ × List ℕ). c.1) prints
unfolding prints line sizes footprint question case_p word lines is_digit digits after_digits value is_decimal is_number follow may_end ends_footprint begins_with numbered read tells judged sheet_grid sheet_register in_threes sheet_questions spelled decimal line_of refusal_text hit_text hit_of hits_text answer_text questions_text built_text sheet_verdict sheet_text told_text printed bad_sizes off_grid bad_point column tile_no row_of column_of tile_count tiles tile_of cover gap meets begins ends place drawn square within point tile_rect shares class_no is_set class_of allowed allowed_in count footprints recorded rectangle bad_span bad_footprint bad_footprints bad_entry bad_register run_no runs tile_runs bad_starts bad_lengths run_start run_end run_at bad_ends good_run good_runs stands built_run built_entries built_starts register_verdict build_verdict builds allowed_run allowed_runs visits visited read_runs is_hit radius_hits hit_writes search_verdict searches paper paper_answer
all_printed = refl
