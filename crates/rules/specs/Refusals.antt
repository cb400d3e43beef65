-- Refusals and answers as the paper numbers them, and how refusals are judged one after the other: document 01, "Refusal numbers".
-- Assumes nothing.
use Rattle.std.specs.Prelude.{Bool, true, false, List, [], ◌∷◌, ℕ, ltb, length, Result, Ok, Err}
use Rattle.laws.specs.Lists.{over}
use Rattle.rules.specs.declared.Part.{Part}
use Rattle.rules.specs.declared.Refusal.{Refusal}
use Rattle.rules.specs.declared.Refusal.TheVariants.{Sizes, Lengths, Footprint, Place, Radius, Damage, Room, Text}
use Rattle.rules.specs.declared.ListRefusal.{ListRefusal}
use Rattle.rules.specs.declared.ListRefusal.TheVariants.{At, Whole}

-- an answer on paper: the refusal's number, 0 for accepted, and the values that go with it
pub record Paper : Type 0 where
  pub number : ℕ
  pub values : List ℕ

abbrev pub says : ℕ → List ℕ → Paper
says k vs = record { number = k; values = vs }

unfoldable pub paper : Refusal → Paper
paper Sizes = says 1 []
paper Lengths = says 2 []
paper (Footprint i) = says 3 (i ∷ [])
paper Place = says 4 []
paper Radius = says 5 []
paper Damage = says 7 []
paper (Room need) = says 6 (need ∷ [])
paper (Text line) = says 8 (line ∷ [])

unfoldable pub paper_answer : Result ℕ Refusal → Paper
paper_answer (Ok v) = says 0 (v ∷ [])
paper_answer (Err r) = paper r

-- of a probe's refusal its index comes first
unfoldable pub paper_listed : Result ℕ ListRefusal → Paper
paper_listed (Ok v) = says 0 (v ∷ [])
paper_listed (Err (At why i)) = says (paper why).number (i ∷ (paper why).values)
paper_listed (Err (Whole why)) = paper why

unfoldable pub paper_checked : Result Bool Refusal → Paper
paper_checked (Ok true) = says 0 (1 ∷ [])
paper_checked (Ok false) = says 0 (0 ∷ [])
paper_checked (Err r) = paper r

unfoldable pub paper_ends : Result Part Refusal → Paper
paper_ends (Ok p) = says 0 (p.begin ∷ p.past ∷ [])
paper_ends (Err r) = paper r

-- ---- judging

-- nothing to refuse so far, or the first refusal in order
pub data Verdict : Type 0 where
  pass : Verdict
  refuse : Refusal → Verdict

-- what a judge in the code answers
abbrev pub as_verdict : {A : Type 0} → Result A Refusal → Verdict
as_verdict (Ok passed) = pass
as_verdict (Err r) = refuse r

-- refused where the test passes, else as judged after it
abbrev pub judge : Bool → Refusal → Verdict → Verdict
judge true r v = refuse r
judge false r v = v

-- the lowest footprint that meets 3 refuses
abbrev pub judge_footprints : List ℕ → Verdict → Verdict
judge_footprints [] v = v
judge_footprints (i ∷ l) v = refuse (Footprint i)

-- what a refusal gives, or what comes where nothing is refused
abbrev pub unless {ℓ} : {A : Type ℓ} → Verdict → (Refusal → A) → A → A
unless pass refusal after = after
unless (refuse r) refusal after = refusal r

-- ---- room

-- so many numbers find room in the output, or refusal 6 with all that are needed
abbrev pub judge_room : ℕ → List ℕ → Verdict → Verdict
judge_room need out v = judge (ltb (length out) need) (Room need) v

-- numbers written over the output where they find room; an exact fit is accepted, and the answer counts what they stand for
abbrev pub fit : ℕ → List ℕ → List ℕ → Paper × List ℕ
fit counted written out =
    unless (judge_room (length written) out pass) (λ r. (paper r, out)) (paper_answer (Ok counted), over written out)
