-- Boxes grown around the footprints of a run hold them all, and where two boxes are apart no pair of what they hold is listed. Assumes nothing.
use mathlib.Core.Path.{◌≡◌, refl, sym, ap, ◌∙◌}
use mathlib.Core.Bool.{true}
use mathlib.Core.List.{List, []}
use Prim.Native.Nat.{ℕ, ◌+◌, ◌≤◌, ◌<◌}
use native.Mathlib.Nat.{le_refl}
use native.Mathlib.Numerals.{add-one}
use native.Mathlib.Omega.{arith}
use lib.ListN.{length, drop, get_or, drop_of_length-le}
use lib.Seq.{drop-cons}
use borrow.Author.Tests.{not-true, le-leb}
use Rattle.laws.specs.Lists.{all}
use Rattle.laws.proofs.Tests.{fst_true, snd_true, both_true}
use Rattle.laws.proofs.Computed.{all_mem}
use Rattle.laws.proofs.Lists.{each_on, each_empty}
use Rattle.rules.specs.Distance.{within}
use Rattle.rules.specs.Register.{rectangle}
use Rattle.rules.specs.Join.{Pair, lists}
use Rattle.rules.specs.JoinSteps.{in_span, in_box, around, around_span, boxed}
use Rattle.rules.specs.declared.Grid.{Grid}
use Rattle.rules.specs.declared.Rect.{Rect}
use Rattle.rules.specs.declared.Span.{Span}
use Rattle.rules.proofs.JoinBoxes.{far_in, boxed_holds}
use Rattle.grid.specs.Tiles.{Near}
use Rattle.join.specs.Boxes.{Holds, by_distance, apart}
use Rattle.join.specs.Levels.{one_pair, entry_pairs, runs_pairs}

-- ---- growing a box around a list, from place i on

-- a box grown around one more begins no later
near_around : (b a : Rect) → Near b → Near (around b a)
unfolding around around_span
near_around b a h = record { x = omega (arith, h.x); y = omega (arith, h.y) }

-- what is left to grow around makes it the whole box
pub record Grown (g : Grid) (reg l : List ℕ) (first : Rect) (b : Rect) (i : ℕ) : Type 0 where
  pub most : i ≤ length l
  pub rest : boxed g reg b (drop i l) ≡ boxed g reg first l
  pub near : Near b

module _ (g : Grid) (reg l : List ℕ) (first : Rect) where
  pub grown_on : (b a b' : Rect) (i : ℕ) → Grown g reg l first b i → i < length l → a ≡ rectangle g reg (get_or l i 0) → b' ≡ around b a
      → Grown g reg l first b' (i + 1)
  unfolding boxed
  grown_on b a b' i s h e f =
      let next : boxed g reg b (drop i l) ≡ boxed g reg (around b (rectangle g reg (get_or l i 0))) (drop (i + 1) l) = rw (drop-cons l i 0 h, add-one) in
      record {
        most = omega arith;
        rest = rw (f, e) (sym next ∙ s.rest);
        near = rw f (near_around b a s.near);
      }

  pub grown_out : (b : Rect) (i : ℕ) → Grown g reg l first b i → length l ≤ i → b ≡ boxed g reg first l
  unfolding boxed
  grown_out b i s h = ap (boxed g reg b) (sym (drop_of_length-le l h)) ∙ s.rest

  pub grown_holds : (b : Rect) → Near b → b ≡ boxed g reg first l → Holds g reg b l
  grown_holds b n e = record { each_in = rw e (boxed_holds g reg first l); near = n }

in_itself : (s : Span) → in_span s s ≡ true
unfolding in_span
in_itself s = both_true (le-leb s.lo s.lo (le_refl s.lo)) (le-leb s.hi s.hi (le_refl s.hi))

-- a footprint's rectangle is a box of its own
pub in_own : (g : Grid) (reg : List ℕ) (i : ℕ) (a : Rect) → a ≡ rectangle g reg i → in_box a (rectangle g reg i) ≡ true
unfolding in_box
in_own g reg i a e = rw e (both_true (in_itself (rectangle g reg i).x) (in_itself (rectangle g reg i).y))

-- ---- what lies in boxes that are apart

-- where distance decides, the pairs listed are those within r
by_distance_law : (g : Grid) (reg_r reg_s : List ℕ) (r k m : ℕ) (p : Pair) → by_distance g r k m ≡ true
    → lists g reg_r reg_s r k m p ≡ within r (rectangle g reg_r p.0) (rectangle g reg_s p.1)
unfolding lists
by_distance_law g reg_r reg_s r k m p h = refl

module _ (g : Grid) (reg_r reg_s : List ℕ) (r k m : ℕ) (a b : Rect) (h : apart g r k m a b ≡ true) where
  one_apart : (i j : ℕ) → in_box a (rectangle g reg_r i) ≡ true → in_box b (rectangle g reg_s j) ≡ true → one_pair g reg_r reg_s r k m i j ≡ []
  unfolding one_pair apart
  one_apart i j e f =
      rw (
        by_distance_law g reg_r reg_s r k m (i, j) (fst_true (by_distance g r k m) _ h),
        far_in r a b (rectangle g reg_r i) (rectangle g reg_s j) e f (not-true _ (snd_true (by_distance g r k m) _ h)),
      )

  pub entry_apart : (i : ℕ) (ls : List ℕ) → in_box a (rectangle g reg_r i) ≡ true → all (λ j. in_box b (rectangle g reg_s j)) ls ≡ true
      → entry_pairs g reg_r reg_s r k m i ls ≡ []
  unfolding entry_pairs
  entry_apart i ls e f =
      each_on (one_pair g reg_r reg_s r k m i) (λ _. []) ls (λ j n. one_apart i j e (all_mem (λ j. in_box b (rectangle g reg_s j)) ls f n))
      ∙ each_empty _ ls (λ _. refl)

  pub runs_apart : (lr ls : List ℕ) → all (λ i. in_box a (rectangle g reg_r i)) lr ≡ true → all (λ j. in_box b (rectangle g reg_s j)) ls ≡ true
      → runs_pairs g reg_r reg_s r k m lr ls ≡ []
  unfolding runs_pairs
  runs_apart lr ls e f =
      each_on (λ i. entry_pairs g reg_r reg_s r k m i ls) (λ _. []) lr
      (λ i n. entry_apart i ls (all_mem (λ i. in_box a (rectangle g reg_r i)) lr e n) f)
      ∙ each_empty _ lr (λ _. refl)
