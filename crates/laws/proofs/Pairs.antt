-- All pairs of two lists, by the first: pairs of filtered lists are a filter of the pairs, and a pair of two ranges stands there once.
-- Assumes nothing.
use mathlib.Core.Path.{◌≡◌, refl, sym, ap, ap₂, ◌∙◌}
use mathlib.Core.Bool.{Bool, true, false, ◌&&◌, and-false}
use mathlib.Core.List.Memᴰ
use mathlib.Core.List.{List, [], ◌∷◌, map, Memᴰ}
use Prim.Native.Nat.{ℕ, ◌<◌, zero-le}
use native.Mathlib.Nat.{zero-add}
use native.Mathlib.Omega.{arith}
use lib.Dec.{ltb, eqb}
use borrow.Author.Tests.{lt-ltb, le-ltb, ne_eqb, eqb-true}
use Rattle.laws.specs.Lists.{keep, filter, up_to, each, only}
use Rattle.laws.specs.Pairs.{pairs, same_pair}
use Rattle.laws.proofs.Tests.{by_le, by_bool, fst_true, snd_true}
use Rattle.laws.proofs.Lists.{filter_each, each_filter, each_same, filter_same, filter_none, only_filter}
use Rattle.laws.proofs.Ranges.{filter_from, pick_one, each_one}
use Rattle.laws.proofs.Members.{mem_each}

module _ {A B : Type 0} where
  -- a pair is made of an element of each
  pub mem_pairs : (l : List A) (m : List B) {z : A × B} → Memᴰ z (pairs l m) → Memᴰ z.0 l × Memᴰ z.1 m
  mem_pairs l m {z} h = go (mem_each _ l h)
    where
      go : (i : A) × Memᴰ i l × Memᴰ z (map (λ (j : B). (i, j)) m) → Memᴰ z.0 l × Memᴰ z.1 m
      go r = last (Memᴰ.of_map (λ (j : B). (r.0, j)) m r.2)
        where
          last : (j : B) × Memᴰ j m × (◌≡◌ {A = A × B} (r.0, j) z) → Memᴰ z.0 l × Memᴰ z.1 m
          last s = (
            Memᴰ.cast (sym (ap (λ (p : A × B). p.0) s.2)) r.1,
            Memᴰ.cast (sym (ap (λ (p : A × B). p.1) s.2)) s.1,
          )

  filter_map : (p : A × B → Bool) (i : A) (m : List B)
      → filter p (map (λ (j : B). (i, j)) m) ≡ map (λ (j : B). (i, j)) (filter (λ j. p (i, j)) m)
  filter_map p i [] = refl
  filter_map p i (j ∷ m) = go (p (i, j)) (filter_map p i m)
    where
      go : (b : Bool) → filter p (map (λ (j : B). (i, j)) m) ≡ map (λ (j : B). (i, j)) (filter (λ j. p (i, j)) m)
          → keep b (i, j) (filter p (map (λ (j : B). (i, j)) m)) ≡ map (λ (j : B). (i, j)) (keep b j (filter (λ j. p (i, j)) m))
      go true e = ap (λ (t : List (A × B)). (i, j) ∷ t) e
      go false e = e

  -- pairs of filtered lists
  pub pairs_of_filters : (p : A → Bool) (q : B → Bool) (l : List A) (m : List B)
      → pairs (filter p l) (filter q m) ≡ filter (λ z. p z.0 && q z.1) (pairs l m)
  pairs_of_filters p q l m =
      each_filter p (λ i. map (λ (j : B). (i, j)) (filter q m)) l
      ∙ each_same _ _ l (λ i. row i (p i) ∙ sym (filter_map (λ z. p z.0 && q z.1) i m))
      ∙ sym (filter_each (λ z. p z.0 && q z.1) (λ i. map (λ (j : B). (i, j)) m) l)
    where
      row : (i : A) (b : Bool) → only {A = A × B} b (map (λ (j : B). (i, j)) (filter q m)) ≡ map (λ (j : B). (i, j)) (filter (λ j. b && q j) m)
      row i true = refl
      row i false = ap (map (λ (j : B). (i, j))) (sym (filter_none m))

-- ---- pairs of numbers

-- where a pair is looked for, a test of it stands before the list
pub test_out : (q : ℕ × ℕ → Bool) (p : ℕ × ℕ) (l : List (ℕ × ℕ)) → filter (λ z. q z && same_pair p z) l ≡ only (q p) (filter (same_pair p) l)
test_out q p l = filter_same _ _ l (λ z _. go z) ∙ sym (only_filter (q p) (same_pair p) l)
  where
    go : (z : ℕ × ℕ) → (q z && same_pair p z) ≡ (q p && same_pair p z)
    go z =
        by_bool (same_pair p z)
        (λ e.
        let f : p.0 ≡ z.0 = eqb-true _ _ (fst_true (eqb p.0 z.0) (eqb p.1 z.1) e) in
        let h : p.1 ≡ z.1 = eqb-true _ _ (snd_true (eqb p.0 z.0) (eqb p.1 z.1) e) in
        ap (λ (w : ℕ × ℕ). q w && same_pair p z) (sym (ap₂ (λ (a b : ℕ). (a, b)) f h)))
        (λ e. rw (e, and-false (q z), and-false (q p)))

find_one : (i m : ℕ) → filter (eqb i) (up_to m) ≡ only (ltb i m) (i ∷ [])
find_one i m =
    by_le m i
    (λ h. rw (le-ltb i m h) (filter_from (eqb i) (λ _. false) 0 m (λ k _ l. ne_eqb i k (omega arith)) ∙ filter_none (up_to m)))
    (λ h. rw (lt-ltb i m h) (pick_one (λ _. true) i 0 m zero-le (rw zero-add h)))

-- a pair stands once among those of two ranges, where both its numbers are in them
pub pair_once : (i j m n : ℕ) → filter (same_pair (i, j)) (pairs (up_to m) (up_to n)) ≡ only (ltb i m && ltb j n) ((i, j) ∷ [])
pair_once i j m n =
    sym (pairs_of_filters (eqb i) (eqb j) (up_to m) (up_to n)) ∙ ap₂ pairs (find_one i m) (find_one j n) ∙ go (ltb i m) (ltb j n)
  where
    go : (a b : Bool) → pairs (only a (i ∷ [])) (only b (j ∷ [])) ≡ only (a && b) ((i, j) ∷ [])
    go true true = refl
    go true false = refl
    go false b = refl

-- ---- one place in four ranges

module _ {A : Type 0} where
  one_in : (x w : Bool) (l : List A) (c m : ℕ) → c < m → each (λ k. only (x && eqb k c && w) l) (up_to m) ≡ only (x && w) l
  one_in x w l c m h =
      each_same _ _ (up_to m) (λ k. ap (λ (b : Bool). only b l) (turn x (eqb k c) w)) ∙ each_one (x && w) l c 0 m zero-le (rw zero-add h)
    where
      turn : (a b d : Bool) → (a && b && d) ≡ (b && (a && d))
      turn true true d = refl
      turn true false d = refl
      turn false true d = refl
      turn false false d = refl

  -- a list that stands at one place of four ranges, where w holds
  pub one_in_four : (w : Bool) (l : List A) (t u a b k m n o : ℕ) → t < k → u < m → a < n → b < o
      → each (λ t'. each (λ u'. each (λ a'. each (λ b'.
      only (eqb t' t && eqb u' u && eqb a' a && eqb b' b && w) l) (up_to o)) (up_to n)) (up_to m)) (up_to k) ≡ only w l
  one_in_four w l t u a b k m n o ht hu ha hb =
      each_same _ _ (up_to k) (λ t'.
      each_same _ _ (up_to m) (λ u'.
      each_same _ _ (up_to n) (λ a'. one_in (eqb t' t && eqb u' u && eqb a' a) w l b o hb)
      ∙ one_in (eqb t' t && eqb u' u) w l a n ha)
      ∙ one_in (eqb t' t) w l u m hu)
      ∙ each_one w l t 0 k zero-le (rw zero-add ht)
