-- Tables as the plan viewer lends them: little-endian bytes, four a number; the promises of build, check and search at the bytes' numbers.
-- Document 01: "a byte length that is no multiple of four is refusal 2". Assumes nothing.
use Rattle.std.specs.Prelude.{Bool, not, List, [], ◌∷◌, ℕ, ◌+◌, ◌*◌, ◌/◌, ◌%◌, eqb, length}
use Rattle.laws.specs.Lists.{any, each}
use Rattle.rules.specs.Sizes.{bad_sizes}
use Rattle.rules.specs.Tables.{Tables, tables}
use Rattle.rules.specs.Refusals.{Paper, paper, Verdict, pass, judge, unless}
use Rattle.rules.specs.Build.{builds, checks}
use Rattle.rules.specs.Search.{searches}
use Rattle.rules.specs.declared.Grid.{Grid}
use Rattle.rules.specs.declared.Point.{Point}
use Rattle.rules.specs.declared.Refusal.TheVariants.{Sizes, Lengths}

-- the numbers that bytes hold, four a number, the lowest byte first
unfoldable pub words : List ℕ → List ℕ
words [] = []
words (a ∷ []) = []
words (a ∷ b ∷ []) = []
words (a ∷ b ∷ c ∷ []) = []
words (a ∷ b ∷ c ∷ d ∷ rest) = (a + 256 * (b + 256 * (c + 256 * d))) ∷ words rest

-- a number's bytes, and those of a table
abbrev pub bytes_of : ℕ → List ℕ
bytes_of v = v % 256 ∷ v / 256 % 256 ∷ v / 65536 % 256 ∷ v / 16777216 ∷ []

unfoldable pub bytes : List ℕ → List ℕ
bytes l = each bytes_of l

-- a byte length off four
unfoldable pub off_four : List ℕ → Bool
off_four b = not (eqb (length b % 4) 0)

-- refusal 1, then 2 where a lent slice has a byte length off four; what else is judged, is judged of the numbers
unfoldable pub bytes_verdict : Grid → List (List ℕ) → Verdict
bytes_verdict g lent = judge (bad_sizes g) Sizes (judge (any off_four lent) Lengths pass)

-- the three lent tables
unfoldable pub word_tables : List ℕ → List ℕ → List ℕ → Tables
word_tables reg starts entries = tables (words reg) (words starts) (words entries)

-- what a call leaves, as bytes
abbrev pub in_bytes₁ : Paper × List ℕ → Paper × List ℕ
in_bytes₁ t = (t.0, bytes t.1)

abbrev pub in_bytes₂ : Paper × List ℕ × List ℕ → Paper × List ℕ × List ℕ
in_bytes₂ t = (t.0, bytes t.1, bytes t.2)

-- ---- the promises

-- the answer, the starts and the entries after a build
unfoldable pub builds_bytes : Grid → List ℕ → List ℕ → List ℕ → Paper × List ℕ × List ℕ
builds_bytes g reg starts entries =
    unless (bytes_verdict g (reg ∷ starts ∷ entries ∷ [])) (λ r. (paper r, starts, entries))
    (in_bytes₂ (builds g (words reg) (words starts) (words entries)))

-- a check writes nothing
unfoldable pub checks_bytes : Grid → List ℕ → List ℕ → List ℕ → Paper
checks_bytes g reg starts entries =
    unless (bytes_verdict g (reg ∷ starts ∷ entries ∷ [])) paper (checks g (words reg) (words starts) (words entries))

-- the answer, and the output after a search
unfoldable pub searches_bytes : Grid → List ℕ → List ℕ → List ℕ → Point → ℕ → List ℕ → Paper × List ℕ
searches_bytes g reg starts entries q r out =
    unless (bytes_verdict g (reg ∷ starts ∷ entries ∷ out ∷ [])) (λ v. (paper v, out))
    (in_bytes₁ (searches g (word_tables reg starts entries) q r (words out)))
