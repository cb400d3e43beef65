-- Boxes around footprints: what lies in two boxes is no nearer than they are, and a box that was grown around a list holds it.
-- Assumes nothing.
use mathlib.Core.Path.{◌≡◌, refl}
use mathlib.Core.Bool.{Bool, true, false}
use mathlib.Core.List.{List, [], ◌∷◌}
use Prim.Native.Nat.{ℕ, ◌-◌, ◌≤◌}
use native.Mathlib.Nat.{le_trans, add-le-add, max-le, le-max_left, le-max_right}
use native.Mathlib.Omega.{arith}
use lib.Dec.{leb}
use borrow.Author.Tests.{leb-true, le-leb, leb-false, lt-leb}
use Rattle.laws.specs.Lists.{all}
use Rattle.laws.proofs.Tests.{fst_true, snd_true, both_true}
use Rattle.laws.proofs.Numbers.{square_rises}
use Rattle.rules.specs.Span.{gap}
use Rattle.rules.specs.Distance.{square, within}
use Rattle.rules.specs.Register.{rectangle}
use Rattle.rules.specs.JoinSteps.{in_span, in_box, around_span, around, boxed}
use Rattle.rules.specs.declared.Grid.{Grid}
use Rattle.rules.specs.declared.Rect.{Rect}
use Rattle.rules.specs.declared.Span.{Span}

span_in : (b s : Span) → in_span b s ≡ true → (b.lo ≤ s.lo) × (s.hi ≤ b.hi)
unfolding in_span
span_in b s e = (leb-true _ _ (fst_true (leb b.lo s.lo) _ e), leb-true _ _ (snd_true (leb b.lo s.lo) _ e))

-- what lies in two spans is no nearer than they are
gap_in : (a b s v : Span) → in_span a s ≡ true → in_span b v ≡ true → gap a b ≤ gap s v
unfolding gap
gap_in a b s v e f =
    let h = span_in a s e in
    let k = span_in b v f in
    max-le (le_trans (less k.0 h.1) (le-max_left _ _)) (le_trans (less h.0 k.1) (le-max_right _ _))
  where
    less : {a b c d : ℕ} → a ≤ b → c ≤ d → a - d ≤ b - c
    less h k = omega arith

-- what lies in two boxes is no nearer than they are
pub square_in : (a b s v : Rect) → in_box a s ≡ true → in_box b v ≡ true → square a b ≤ square s v
unfolding square in_box
square_in a b s v e f =
    add-le-add
    (square_rises (gap_in a.x b.x s.x v.x (fst_true (in_span a.x s.x) _ e) (fst_true (in_span b.x v.x) _ f)))
    (square_rises (gap_in a.y b.y s.y v.y (snd_true (in_span a.x s.x) _ e) (snd_true (in_span b.x v.x) _ f)))

pub far_in : (r : ℕ) (a b s v : Rect) → in_box a s ≡ true → in_box b v ≡ true → within r a b ≡ false → within r s v ≡ false
unfolding within
far_in r a b s v e f h = lt-leb _ _ (le_trans (leb-false _ _ h) (square_in a b s v e f))

-- every footprint of a list lies in a box
abbrev pub all_in : Grid → List ℕ → Rect → List ℕ → Bool
all_in g reg b l = all (λ i. in_box b (rectangle g reg i)) l

-- ---- the box that is grown around a list

in_span_law : (b s : Span) → b.lo ≤ s.lo → s.hi ≤ b.hi → in_span b s ≡ true
unfolding in_span
in_span_law b s h k = both_true (le-leb _ _ h) (le-leb _ _ k)

in_around : (a b s : Span) → in_span a s ≡ true → in_span (around_span a b) s ≡ true
unfolding around_span
in_around a b s e = let h = span_in a s e in in_span_law (around_span a b) s (omega arith) (omega arith)

in_around_it : (a b : Span) → in_span (around_span a b) b ≡ true
unfolding around_span
in_around_it a b = in_span_law (around_span a b) b (omega arith) (omega arith)

module _ (g : Grid) (reg : List ℕ) where
  -- what lies in a box lies in it as it is grown
  pub stays_in : (b a : Rect) (l : List ℕ) → in_box b a ≡ true → in_box (boxed g reg b l) a ≡ true
  unfolding boxed in_box around
  stays_in b a [] e = e
  stays_in b a (i ∷ l) e =
      stays_in (around b (rectangle g reg i)) a l
      (both_true
      (in_around b.x (rectangle g reg i).x a.x (fst_true (in_span b.x a.x) _ e))
      (in_around b.y (rectangle g reg i).y a.y (snd_true (in_span b.x a.x) _ e)))

  -- so all that it was grown around lie in it
  pub boxed_holds : (b : Rect) (l : List ℕ) → all_in g reg (boxed g reg b l) l ≡ true
  unfolding boxed around
  boxed_holds b [] = refl
  boxed_holds b (i ∷ l) =
      both_true
      (stays_in (around b (rectangle g reg i)) (rectangle g reg i) l
      (unfold in_box in both_true (in_around_it b.x (rectangle g reg i).x) (in_around_it b.y (rectangle g reg i).y)))
      (boxed_holds (around b (rectangle g reg i)) l)
