-- What a question's answer leaves: its text in the output, and whether it is a refusal. Assumes nothing.
use Rattle.std.specs.Prelude.{◌≡◌, Bool, true, false, not, List, [], ℕ, ◌<◌, eqb, length, get_or, Result, Ok, Err}
use Rattle.rules.specs.Register.{bad_entry}
use Rattle.rules.specs.Tables.{Tables}
use Rattle.rules.specs.Search.{searches}
use Rattle.rules.specs.Text.{answer_text}
use Rattle.rules.specs.declared.Grid.{Grid}
use Rattle.rules.specs.declared.Point.{Point}
use Rattle.search.specs.Reading.{Placed}
use Rattle.sheet.specs.Put.{Output, puts}

-- a hit of a point on the grid: an entry may name it
pub record Named (g : Grid) (reg : List ℕ) (q : Point) (hit : ℕ) : Type 0 where
  pub placed : Placed g q
  pub good : bad_entry g reg hit ≡ false

-- each number is such a hit
pub record AllNamed (g : Grid) (reg : List ℕ) (q : Point) (hits : List ℕ) : Type 0 where
  pub named : (i : ℕ) → i < length hits → Named g reg q (get_or hits i 0)

-- how many bytes a text has, of hits or of a refusal
abbrev pub bytes_of : Result ℕ ℕ → ℕ
bytes_of (Ok n) = n
bytes_of (Err n) = n

-- whether it is a refusal
abbrev pub is_refusal : Result ℕ ℕ → Bool
is_refusal (Ok n) = false
is_refusal (Err n) = true

-- the question's text from the output's beginning on, whether the search refuses, and the hits as the search leaves them
pub record Answers (g : Grid) (t : Tables) (q : Point) (r : ℕ) (hits₀ out₀ : List ℕ) (a : Result ℕ ℕ) (hits out : List ℕ) : Type 0 where
  pub text : ◌≡◌ {A = Output} (bytes_of a, out) (puts (answer_text g t.reg q (searches g t q r hits₀) []) (0, out₀))
  pub ends : is_refusal a ≡ not (eqb (searches g t q r hits₀).0.number 0)
  pub kept : hits ≡ (searches g t q r hits₀).1
