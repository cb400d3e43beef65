-- An ask: what it leaves where damage is met and where not, and its refusals in their order. Assumes nothing.
use Rattle.std.specs.Prelude.{Ok}
use mathlib.Core.Path.{◌≡◌, refl, sym, ap, ap₂, ◌∙◌}
use mathlib.Core.Bool.{true, false}
use mathlib.Core.List.{List, [], ◌++◌}
use Prim.Native.Nat.{ℕ, ◌-◌, ◌*◌, ◌/◌, ◌≤◌, ◌<◌}
use native.Mathlib.Omega.{arith}
use lib.ListN.{length, take, drop, replicate, length-replicate, take-append-drop}
use lib.Seq.{length-take-le}
use borrow.Author.Tests.{le-ltb, lt-ltb}
use Rattle.laws.specs.Lists.{over}
use Rattle.rules.specs.Sizes.{bad_sizes, bad_point}
use Rattle.rules.specs.Tables.{Tables, bad_lengths}
use Rattle.rules.specs.Refusals.{Paper, paper, paper_answer, refuse}
use Rattle.rules.specs.Front.{rows, laid}
use Rattle.rules.specs.Walk.{row_numbers, Machine, machine, spoiled, finish, walk_at, walk_point, ask_verdict, whole_rows, bad_walk, ask_machine, ask_outcome, asks}
use Rattle.rules.specs.declared.Grid.{Grid}
use Rattle.rules.specs.declared.Refusal.{Refusal}
use Rattle.rules.specs.declared.Refusal.TheVariants.{Damage, Room}
use Rattle.rules.specs.declared.Three.{Three}
use Rattle.rules.specs.declared.Walk.{Walk}
use Rattle.rules.specs.declared.Walked.{Walked}
use Rattle.rules.proofs.Memory.{length_rows}
use Rattle.walk.specs.Taking.{state, standing, Runs, Fails}
use Rattle.walk.specs.Answers.{Says}
use Rattle.walk.specs.declared.take.At.{At}
use Rattle.walk.proofs.Adding.{same_rows}
use Rattle.walk.proofs.Runs.{standing_fine}

-- the four that an ask leaves, made of equal parts
four : {p p' : Paper} {w w' : Walk} {f f' o o' : List ℕ} → p ≡ p' → w ≡ w' → f ≡ f' → o ≡ o'
    → ◌≡◌ {A = Paper × Walk × List ℕ × List ℕ} (p, w, f, o) (p', w', f', o')
four a b c d = cc

-- ---- damage

pub spoils : (w : Walk) (front out front' zeros : List ℕ) (j : ℕ) → front' ≡ replicate (length front) 0 → zeros ≡ replicate (row_numbers * j) 0
    → (x : Walk) → x ≡ walk_at (walk_point w) 0 true → (r : Walked) → Says r (paper Damage) x
    → (paper_answer r.answer, r.walk, front', zeros ++ drop (row_numbers * j) out) ≡ ask_outcome w front j out spoiled
unfolding ask_outcome
spoils w front out front' zeros j ef ez x ex r s =
    let n = length-replicate {A = ℕ} (row_numbers * j) 0 in
    four s.paper (s.walk ∙ ex) ef (ap₂ (λ (l : List ℕ) (k : ℕ). l ++ drop k out) ez (sym n))

-- ---- rows taken

module _ (g : Grid) (t : Tables) (w : Walk) (front out front₁ front₂ out₂ : List ℕ) (head j : ℕ) (l₁ : length front₁ ≡ length front)
    (l₂ : length front₂ ≡ length front₁) (lo : length out₂ ≡ length out) (lifted : drop head (rows front₁) ≡ take w.waiting (rows front))
    (room : row_numbers * j ≤ length out) where
  abbrev end : Machine
  end = finish g t (walk_point w) (whole_rows front) (machine (take w.waiting (rows front)) [] j false)

  begins : standing front₁ out j (state head 0) ≡ machine (take w.waiting (rows front)) [] j false
  unfolding standing
  begins = let n : j - 0 ≡ j = omega arith in ap₂ (λ (l : List Three) (k : ℕ). machine l [] k false) lifted n

  -- the machine's end, of a front as long as the lent one
  ends : finish g t (walk_point w) (length (rows front₁)) (standing front₁ out j (state head 0)) ≡ end
  unfolding whole_rows
  ends = ap₂ (finish g t (walk_point w)) (same_rows front₁ front l₁ ∙ length_rows front) begins

  pub rows_spoiled : Fails g t (walk_point w) front₁ out out₂ head j → (front₃ out₃ : List ℕ) (r : Walked)
      → (paper_answer r.answer, r.walk, front₃, out₃) ≡ ask_outcome w front₂ j out₂ spoiled → (paper_answer r.answer, r.walk, front₃, out₃) ≡ ask_outcome w front j out end
  unfolding ask_outcome
  rows_spoiled p front₃ out₃ r e =
      let m : spoiled ≡ end = p.is ∙ ends in
      let n = length-replicate {A = ℕ} (row_numbers * j) 0 in
      let o : over (replicate (row_numbers * j) 0) out₂ ≡ over (replicate (row_numbers * j) 0) out =
      ap (λ (k : ℕ). replicate (row_numbers * j) 0 ++ drop k out₂) n ∙ ap (λ (l : List ℕ). replicate (row_numbers * j) 0 ++ l) p.behind
      ∙ ap (λ (k : ℕ). replicate (row_numbers * j) 0 ++ drop k out) (sym n) in
      e ∙ four refl refl (ap (λ (k : ℕ). replicate k 0) (l₂ ∙ l₁)) o ∙ ap (ask_outcome w front j out) m

  pub rows_given : (s : At) → Runs g t (walk_point w) front₁ out front₂ out₂ head j s → (front₃ : List ℕ) (n : ℕ) → n ≡ length (drop s.head (rows front₂)) → front₃ ≡ laid (length front₂) (drop s.head (rows front₂))
      → (x : Walk) → x ≡ walk_at (walk_point w) n false → (r : Walked) → Says r (paper_answer (Ok s.given)) x
      → (paper_answer r.answer, r.walk, front₃, out₂) ≡ ask_outcome w front j out end
  unfolding ask_outcome
  rows_given s ran front₃ n en ef x ex r y =
      let f = ran.few in
      let k = row_numbers * s.given in
      let h : s.given ≡ j - (j - s.given) = omega arith in
      let l : length (take k out₂) ≡ k = length-take-le k out₂ (omega arith) in
      let o : out₂ ≡ over (take k out₂) out =
      sym (take-append-drop k out₂) ∙ ap (λ (m : List ℕ). take k out₂ ++ m) (ran.behind ∙ ap (λ (i : ℕ). drop i out) (sym l)) in
      four (y.paper ∙ ap (λ (i : ℕ). paper_answer (Ok i)) h) (y.walk ∙ ex ∙ ap (λ (i : ℕ). walk_at (walk_point w) i false) en)
      (ef ∙ ap (λ (i : ℕ). laid i (drop s.head (rows front₂))) (l₂ ∙ l₁)) o
      ∙ ap (ask_outcome w front j out) (sym (standing_fine front₂ out₂ j s) ∙ ran.is ∙ ends)

-- ---- refusal 6, and damage before any row is taken

module _ (g : Grid) (t : Tables) (front : List ℕ) (w : Walk) (j : ℕ) (out : List ℕ) where
  pub ask_refused : (why : Refusal) → ask_verdict g t w j out ≡ refuse why → (r : Walked) → Says r (paper why) w
      → (paper_answer r.answer, r.walk, front, out) ≡ asks g t front w j out
  unfolding asks
  ask_refused why e r s = rw e (four s.paper s.walk refl refl)

  module _ (a : bad_sizes g ≡ false) (b : bad_lengths g t ≡ false) (c : bad_point g (walk_point w) ≡ false) where
    pub ask_short : length out < row_numbers * j → ask_verdict g t w j out ≡ refuse (Room (row_numbers * j))
    unfolding ask_verdict
    ask_short h = rw (a, b, c, lt-ltb (length out) (row_numbers * j) h) refl

    module _ (h : row_numbers * j ≤ length out) where
      ask_is : (m : Machine) → ask_machine g t front w j ≡ m → ask_outcome w front j out m ≡ asks g t front w j out
      unfolding asks ask_verdict
      ask_is m e = rw (a, b, c, le-ltb (length out) (row_numbers * j) h, e) refl

      pub ask_marked : w.damaged ≡ true → ask_outcome w front j out spoiled ≡ asks g t front w j out
      unfolding ask_machine bad_walk
      ask_marked d = ask_is spoiled (rw d refl)

      pub ask_beyond : w.damaged ≡ false → length (rows front) < w.waiting → ask_outcome w front j out spoiled ≡ asks g t front w j out
      unfolding ask_machine bad_walk whole_rows
      ask_beyond d k = ask_is spoiled (rw (d, lt-ltb (length front / 3) w.waiting (omega (arith, length_rows front))) refl)

      pub ask_fine : w.damaged ≡ false → w.waiting ≤ length (rows front)
          → ask_outcome w front j out (finish g t (walk_point w) (whole_rows front) (machine (take w.waiting (rows front)) [] j false)) ≡ asks g t front w j out
      unfolding ask_machine bad_walk whole_rows
      ask_fine d k = ask_is (finish g t (walk_point w) (length front / 3) (machine (take w.waiting (rows front)) [] j false))
          (rw (d, le-ltb (length front / 3) w.waiting (omega (arith, length_rows front))) refl)
