-- Each promise has one answer: two answers that meet it are equal, with all states and all lent memory. Assumes nothing.
use mathlib.Core.Path.{◌≡◌, sym, ap, ap₂, ◌∙◌}
use mathlib.Core.List.{List}
use Prim.Native.Nat.{ℕ}
use Rattle.std.specs.Prelude.{Bool, Result}
use Rattle.rules.specs.Tables.{Tables}
use Rattle.rules.specs.Refusals.{Paper, paper_answer, paper_listed, paper_checked, paper_ends}
use Rattle.rules.specs.Build.{builds, checks, run_ends, hands_back}
use Rattle.rules.specs.Search.{searches}
use Rattle.rules.specs.Probes.{searches_all}
use Rattle.rules.specs.Join.{joins}
use Rattle.rules.specs.Walk.{begun, asks}
use Rattle.rules.specs.declared.Refusal.{Refusal}
use Rattle.rules.specs.declared.ListRefusal.{ListRefusal}
use Rattle.rules.specs.declared.Part.{Part}
use Rattle.rules.specs.declared.Grid.{Grid}
use Rattle.rules.specs.declared.Point.{Point}
use Rattle.rules.specs.declared.Probe.{Probe}
use Rattle.rules.specs.declared.Walk.{Walk}
use Rattle.rules.specs.declared.Walked.{Walked}
use Rattle.rules.proofs.Papers.{answers_same, listed_same, checks_same, ends_same}

-- an answer with one, two or three things beside it
one_beside : {A : Type 0} (a b : Result ℕ Refusal) (x x' : A) → ◌≡◌ {A = Paper × A} (paper_answer a, x) (paper_answer b, x') → (a ≡ b) × (x ≡ x')
one_beside {A} a b x x' e = (answers_same a b (ap (λ (t : Paper × A). t.0) e), ap (λ (t : Paper × A). t.1) e)

two_beside : {A B : Type 0} (a b : Result ℕ Refusal) (x x' : A) (y y' : B)
    → ◌≡◌ {A = Paper × A × B} (paper_answer a, x, y) (paper_answer b, x', y') → (a ≡ b) × (x ≡ x') × (y ≡ y')
two_beside {A} {B} a b x x' y y' e =
    (answers_same a b (ap (λ (t : Paper × A × B). t.0) e), ap (λ (t : Paper × A × B). t.1) e, ap (λ (t : Paper × A × B). t.2) e)

three_beside : {A B C : Type 0} (a b : Result ℕ Refusal) (x x' : A) (y y' : B) (z z' : C)
    → ◌≡◌ {A = Paper × A × B × C} (paper_answer a, x, y, z) (paper_answer b, x', y', z') → (a ≡ b) × (x ≡ x') × (y ≡ y') × (z ≡ z')
three_beside {A} {B} {C} a b x x' y y' z z' e = (
  answers_same a b (ap (λ (t : Paper × A × B × C). t.0) e),
  ap (λ (t : Paper × A × B × C). t.1) e,
  ap (λ (t : Paper × A × B × C). t.2) e,
  ap (λ (t : Paper × A × B × C). t.3) e,
)

walked_same : (a b : Walked) → a.answer ≡ b.answer → a.walk ≡ b.walk → a ≡ b
walked_same a b e f = ap₂ (λ (x : Result ℕ Refusal) (w : Walk). record { answer = x; walk = w }) e f

module _ (g : Grid) where
  pub one_build : (reg starts entries : List ℕ) (a b : Result ℕ Refusal) (s s' e e' : List ℕ)
      → (paper_answer a, s, e) ≡ builds g reg starts entries → (paper_answer b, s', e') ≡ builds g reg starts entries
      → (a ≡ b) × (s ≡ s') × (e ≡ e')
  one_build reg starts entries a b s s' e e' p q = two_beside a b s s' e e' (p ∙ sym q)

  pub one_check : (reg starts entries : List ℕ) (a b : Result Bool Refusal)
      → paper_checked a ≡ checks g reg starts entries → paper_checked b ≡ checks g reg starts entries → a ≡ b
  one_check reg starts entries a b p q = checks_same a b (p ∙ sym q)

  pub one_run_ends : (starts : List ℕ) (entries t class : ℕ) (a b : Result Part Refusal)
      → paper_ends a ≡ run_ends g starts entries t class → paper_ends b ≡ run_ends g starts entries t class → a ≡ b
  one_run_ends starts entries t class a b p q = ends_same a b (p ∙ sym q)

  pub one_run_law : (starts entries : List ℕ) (t class : ℕ) (ptr : ℕ × ℕ) (a b : (ℕ × ℕ) × List ℕ)
      → a ≡ hands_back g starts entries t class ptr → b ≡ hands_back g starts entries t class ptr → a ≡ b
  one_run_law starts entries t class ptr a b p q = p ∙ sym q

  pub one_search : (t : Tables) (q : Point) (r : ℕ) (out : List ℕ) (a b : Result ℕ Refusal) (o o' : List ℕ)
      → (paper_answer a, o) ≡ searches g t q r out → (paper_answer b, o') ≡ searches g t q r out → (a ≡ b) × (o ≡ o')
  one_search t q r out a b o o' u v = one_beside a b o o' (u ∙ sym v)

  pub one_search_all : (t : Tables) (ps : List Probe) (out ends : List ℕ) (a b : Result ℕ ListRefusal) (o o' e e' : List ℕ)
      → (paper_listed a, o, e) ≡ searches_all g t ps out ends → (paper_listed b, o', e') ≡ searches_all g t ps out ends
      → (a ≡ b) × (o ≡ o') × (e ≡ e')
  one_search_all t ps out ends a b o o' e e' u v =
      let s = u ∙ sym v in (
        listed_same a b (ap (λ (x : Paper × List ℕ × List ℕ). x.0) s),
        ap (λ (x : Paper × List ℕ × List ℕ). x.1) s,
        ap (λ (x : Paper × List ℕ × List ℕ). x.2) s,
      )

  pub one_join : (tr ts : Tables) (r : ℕ) (out : List ℕ) (a b : Result ℕ Refusal) (o o' : List ℕ)
      → (paper_answer a, o) ≡ joins g tr ts r out → (paper_answer b, o') ≡ joins g tr ts r out → (a ≡ b) × (o ≡ o')
  one_join tr ts r out a b o o' u v = one_beside a b o o' (u ∙ sym v)

  pub one_start : (t : Tables) (q : Point) (front : List ℕ) (a b : Walked) (f f' : List ℕ)
      → (paper_answer a.answer, a.walk, f) ≡ begun g t q front → (paper_answer b.answer, b.walk, f') ≡ begun g t q front
      → (a ≡ b) × (f ≡ f')
  one_start t q front a b f f' u v =
      let e = two_beside a.answer b.answer a.walk b.walk f f' (u ∙ sym v) in
      (walked_same a b e.0 e.1, e.2)

  pub one_ask : (t : Tables) (front : List ℕ) (w : Walk) (j : ℕ) (out : List ℕ) (a b : Walked) (f f' o o' : List ℕ)
      → (paper_answer a.answer, a.walk, f, o) ≡ asks g t front w j out → (paper_answer b.answer, b.walk, f', o') ≡ asks g t front w j out
      → (a ≡ b) × (f ≡ f') × (o ≡ o')
  one_ask t front w j out a b f f' o o' u v =
      let e = three_beside a.answer b.answer a.walk b.walk f f' o o' (u ∙ sym v) in
      (walked_same a b e.0 e.1, e.2, e.3)
