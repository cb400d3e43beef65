-- What a caller knows of a judged text: how many numbers it says, and where n, side, the register and the questions stand among them.
-- Assumes nothing.
use mathlib.Core.Path.{◌≡◌, refl, sym, ap, ap₂, ◌∙◌}
use mathlib.Core.List.{List, [], ◌∷◌}
use Prim.Native.Nat.{ℕ, ◌+◌, ◌-◌, ◌*◌, ◌≤◌, ◌<◌}
use native.Mathlib.Omega.{arith}
use lib.Dec.{ltb}
use lib.ListN.{length, get_or, take, drop, length-take, length-drop, get_or-append}
use lib.Seq.{take-append-le, drop-append-le, get_or-drop, drop-drop}
use Rattle.std.specs.Prelude.{Result, Ok, Err}
use Rattle.laws.specs.Lists.{over, part}
use Rattle.laws.proofs.Tests.{by_bool}
use Rattle.rules.specs.Refusals.{Verdict, pass, refuse}
use Rattle.rules.specs.Text.{Told, judged, Question, in_threes, sheet_grid, sheet_register, sheet_questions}
use Rattle.rules.specs.Register.{count}
use Rattle.rules.specs.declared.Refusal.{Refusal}
use Rattle.rules.specs.declared.Refusal.TheVariants.{Room}
use Rattle.rules.proofs.Counted.{footprints_said, numbers_enough}
use Rattle.sheet.specs.Sheets.{most_numbers, said as sheet_said, sheet_of, judges}
use Rattle.sheet.specs.declared.judging.Sheet.{Sheet}

-- ---- a good text

pub record GoodText (bytes : List ℕ) (count f : ℕ) : Type 0 where
  pub good : (judged bytes).verdict ≡ pass
  pub all_said : length (judged bytes).said ≡ count
  pub all_footprints : (judged bytes).footprints ≡ f
  pub some : 2 + 4 * f ≤ count
  pub few : count ≤ most_numbers

good_sheet : (t : Told) (v : Verdict) (s : Sheet) → t.verdict ≡ v → sheet_of t ≡ Ok s
    → (t.verdict ≡ pass) × (length t.said ≡ s.numbers) × (t.footprints ≡ s.footprints)
unfolding sheet_of
good_sheet t pass s e g =
    let z : ◌≡◌ {A = Result Sheet Refusal} (Ok (sheet_said (length t.said) t.footprints)) (Ok s) = rw e at g in
    (e, cc, cc)
good_sheet t (refuse r) s e g =
    let z : ◌≡◌ {A = Result Sheet Refusal} (Err r) (Ok s) = rw e at g in
    cc

-- what the judge's answer says of the text
pub good_text : (bytes numbers : List ℕ) (s : Sheet) → (judges bytes numbers).0 ≡ Ok s → GoodText bytes s.numbers s.footprints
unfolding judges
good_text bytes numbers s e =
    by_bool (ltb (length numbers) most_numbers)
    (λ t.
    let z : ◌≡◌ {A = Result Sheet Refusal} (Err (Room most_numbers)) (Ok s) = rw t at e in
    cc)
    (λ t.
    let g = good_sheet (judged bytes) (judged bytes).verdict s refl (rw t at e) in
    record {
      good = g.0;
      all_said = g.1;
      all_footprints = g.2;
      some = omega (arith, footprints_said bytes g.0, g.1, g.2);
      few = omega (arith, numbers_enough bytes, g.1);
    })

-- ---- the numbers written over those that were lent

pub said_at : (said numbers : List ℕ) (i : ℕ) → i < length said → get_or (over said numbers) i 0 ≡ get_or said i 0
said_at said numbers i h = get_or-append said (drop (length said) numbers) 0 i h

pub said_part : (said numbers : List ℕ) (a e : ℕ) → a ≤ e → e ≤ length said → part (over said numbers) a e ≡ part said a e
said_part said numbers a e h k =
    ap (take (e - a)) (drop-append-le a said (drop (length said) numbers) (omega arith))
    ∙ take-append-le (e - a) (drop a said) (drop (length said) numbers) (rw length-drop (omega arith))

-- ---- questions in threes

abbrev pub question_at : List ℕ → ℕ → Question
question_at l i = record { from = record { x = get_or l i 0; y = get_or l (i + 1) 0 }; radius = get_or l (i + 2) 0 }

three : (l : List ℕ) → 3 ≤ length l → in_threes l ≡ question_at l 0 ∷ in_threes (drop 3 l)
unfolding in_threes
three [] h = absurd (omega arith)
three (x ∷ []) h = absurd (omega arith)
three (x ∷ y ∷ []) h = absurd (omega arith)
three (x ∷ y ∷ r ∷ l) h = refl

pub next_question : (l : List ℕ) (i : ℕ) → i + 3 ≤ length l → in_threes (drop i l) ≡ question_at l i ∷ in_threes (drop (i + 3) l)
next_question l i h =
    let z : i + 0 ≡ i = omega arith in
    let w : 3 ≤ length (drop i l) = rw length-drop (omega arith) in
    let q : question_at (drop i l) 0 ≡ question_at l i = rw (get_or-drop i l 0 0, get_or-drop i l 1 0, get_or-drop i l 2 0, z) in
    three (drop i l) w ∙ ap₂ ◌∷◌ q (ap in_threes (drop-drop 3 i l))

short : (l : List ℕ) → length l < 3 → in_threes l ≡ []
unfolding in_threes
short [] h = refl
short (x ∷ []) h = refl
short (x ∷ y ∷ []) h = refl
short (x ∷ y ∷ r ∷ l) h = absurd (omega arith)

pub no_question : (l : List ℕ) (i : ℕ) → length l < i + 3 → in_threes (drop i l) ≡ []
no_question l i h = short (drop i l) (rw length-drop (omega arith))

-- ---- where n, side, the register and the questions of a good text stand

module _ (bytes lent : List ℕ) (all f : ℕ) (t : GoodText bytes all f) where
  -- the numbers after the judge
  abbrev after : List ℕ
  after = over (judged bytes).said lent

  pub grid_stands : sheet_grid (judged bytes) ≡ record { n = get_or after 0 0; side = get_or after 1 0 }
  unfolding sheet_grid
  grid_stands =
      rw (
        said_at (judged bytes).said lent 0 (omega (arith, t.some, t.all_said)),
        said_at (judged bytes).said lent 1 (omega (arith, t.some, t.all_said)),
      )

  pub register_stands : part after 2 (2 + 4 * f) ≡ sheet_register (judged bytes)
  unfolding sheet_register
  register_stands =
      said_part (judged bytes).said lent 2 (2 + 4 * f) (omega arith) (omega (arith, t.some, t.all_said))
      ∙ ap (λ (k : ℕ). part (judged bytes).said 2 (2 + 4 * k)) (sym t.all_footprints)

  pub register_count : count (sheet_register (judged bytes)) ≡ f
  unfolding sheet_register count
  register_count =
      omega (
        arith,
        length-take (2 + 4 * (judged bytes).footprints - 2) (drop 2 (judged bytes).said),
        length-drop 2 (judged bytes).said,
        t.some,
        t.all_said,
        t.all_footprints,
      )

  pub questions_stand : sheet_questions (judged bytes) ≡ in_threes (drop (2 + 4 * f) (judged bytes).said)
  unfolding sheet_questions
  questions_stand = ap (λ (k : ℕ). in_threes (drop (2 + 4 * k) (judged bytes).said)) t.all_footprints

  -- the question at a place, and those behind it
  pub question_stands : (i : ℕ) → i + 3 ≤ all
      → in_threes (drop i (judged bytes).said) ≡ question_at after i ∷ in_threes (drop (i + 3) (judged bytes).said)
  question_stands i h =
      let z = t.all_said in
      let q : question_at (judged bytes).said i ≡ question_at after i =
      rw (
        said_at (judged bytes).said lent i (omega arith),
        said_at (judged bytes).said lent (i + 1) (omega arith),
        said_at (judged bytes).said lent (i + 2) (omega arith),
      ) in
      next_question (judged bytes).said i (omega arith) ∙ ap (λ (a : Question). a ∷ in_threes (drop (i + 3) (judged bytes).said)) q

  pub questions_end : (i : ℕ) → all < i + 3 → in_threes (drop i (judged bytes).said) ≡ []
  questions_end i h = no_question (judged bytes).said i (omega (arith, t.all_said))
