-- One pass over a list or a range that stops at the first that fails: what is left to look at decides. Assumes nothing.
use mathlib.Core.Path.{◌≡◌, refl, sym, ap, ◌∙◌}
use mathlib.Core.Bool.{Bool, true, false, ◌&&◌, and-false}
use mathlib.Core.List.{List, []}
use Prim.Native.Nat.{ℕ, suc, ◌+◌, ◌-◌, ◌≤◌, ◌<◌}
use native.Mathlib.Numerals.{add-one}
use native.Mathlib.Omega.{arith}
use lib.Dec.{leb}
use lib.ListN.{length, get_or, drop, drop_of_length-le}
use lib.Seq.{drop-cons}
use borrow.Author.Tests.{le-leb, lt-leb}
use Rattle.laws.specs.Lists.{from, up_to, all}
use Rattle.laws.specs.Rising.{rising}
use Rattle.laws.proofs.Remaining.{next_left, none_left}

-- ---- a list that is to rise

module _ (p : ℕ → Bool) (l : List ℕ) where
  -- from place j on, with the least that may come next
  pub record Rises (least j : ℕ) : Type 0 where
    pub most : j ≤ length l
    pub rest : rising p least (drop j l) ≡ rising p 0 l

  pub rises_all : Rises 0 0
  rises_all = record { most = omega arith; rest = refl }

  module _ (least j : ℕ) (r : Rises least j) where
    here : j < length l → rising p 0 l ≡ (leb least (get_or l j 0) && p (get_or l j 0) && rising p (suc (get_or l j 0)) (drop (suc j) l))
    here h = sym r.rest ∙ ap (rising p least) (drop-cons l j 0 h)

    pub falls : (i : ℕ) → j < length l → i ≡ get_or l j 0 → i < least → false ≡ rising p 0 l
    falls i h e k = sym (here h ∙ rw (← e, lt-leb least i k))

    pub fails : (i : ℕ) → j < length l → i ≡ get_or l j 0 → p i ≡ false → false ≡ rising p 0 l
    fails i h e k = sym (here h ∙ rw (← e, k, and-false (leb least i)))

    pub rises_on : (i : ℕ) → j < length l → i ≡ get_or l j 0 → least ≤ i → p i ≡ true → Rises (i + 1) (j + 1)
    rises_on i h e k t =
        let q : rising p 0 l ≡ rising p (suc i) (drop (suc j) l) = here h ∙ rw (← e, le-leb least i k, t) in
        record { most = omega arith; rest = rw (add-one i, add-one j) (sym q) }

    pub rises_out : length l ≤ j → true ≡ rising p 0 l
    rises_out h = let q : drop j l ≡ [] = drop_of_length-le l h in sym (ap (rising p least) q) ∙ r.rest

-- ---- a range of which all are to pass

module _ (t : ℕ → Bool) (m : ℕ) where
  pub record Passes (k : ℕ) : Type 0 where
    pub most : k ≤ m
    pub rest : all t (from k (m - k)) ≡ all t (up_to m)

  pub passes_all : Passes 0
  passes_all = record { most = omega arith; rest = let e : m - 0 ≡ m = omega arith in rw e }

  module _ (k : ℕ) (r : Passes k) where
    next : k < m → all t (up_to m) ≡ (t k && all t (from (k + 1) (m - (k + 1))))
    next h = sym r.rest ∙ ap (all t) (next_left k m h)

    pub passes_not : k < m → t k ≡ false → false ≡ all t (up_to m)
    passes_not h e = sym (next h ∙ rw e)

    pub passes_on : k < m → t k ≡ true → Passes (k + 1)
    passes_on h e =
        let q : all t (up_to m) ≡ all t (from (k + 1) (m - (k + 1))) = next h ∙ rw e in
        record { most = omega arith; rest = sym q }

    pub passes_out : m ≤ k → true ≡ all t (up_to m)
    passes_out h = sym (ap (all t) (none_left k m h)) ∙ r.rest
