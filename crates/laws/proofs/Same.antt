-- The test whether two lists of numbers are the same. Assumes nothing.
use mathlib.Core.Path.{◌≡◌, refl, sym, ap₂}
use mathlib.Core.Bool.{true}
use mathlib.Core.List.{List, [], ◌∷◌}
use Prim.Native.Nat.{ℕ}
use lib.Dec.{eqb}
use borrow.Author.Tests.{eqb-true, eq-eqb}
use Rattle.laws.specs.Lists.{same}
use Rattle.laws.proofs.Tests.{clash, fst_true, snd_true}

pub same_itself : (l : List ℕ) → same l l ≡ true
same_itself [] = refl
same_itself (a ∷ l) = rw (eq-eqb a a refl) (same_itself l)

pub same_true : (l m : List ℕ) → same l m ≡ true → l ≡ m
same_true [] [] e = refl
same_true [] (b ∷ m) e = clash (sym e)
same_true (a ∷ l) [] e = clash (sym e)
same_true (a ∷ l) (b ∷ m) e = ap₂ ◌∷◌ (eqb-true a b (fst_true (eqb a b) (same l m) e)) (same_true l m (snd_true (eqb a b) (same l m) e))
