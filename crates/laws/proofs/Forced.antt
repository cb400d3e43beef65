-- Lists laid one behind the other, of which no part is longer than it should be, and which together are as long as they should be:
-- each part is the list that should stand there, and begins where it should. Assumes nothing.
use mathlib.Core.Path.{◌≡◌, sym, ap, ap₂, ◌∙◌}
use mathlib.Core.List.{List, ◌++◌}
use Prim.Native.Nat.{ℕ, zero, suc, ◌+◌, ◌-◌, ◌≤◌, ◌<◌}
use native.Mathlib.Nat.{zero-add}
use native.Mathlib.Numerals.{add-one}
use native.Mathlib.Omega.{arith}
use lib.ListN.{length, get_or, take, drop, length-append, length-take, length-drop, take-append-drop}
use lib.Seq.{ext_get_or, take-add}
use Rattle.laws.specs.Lists.{up_to, each, part, places}
use Rattle.laws.proofs.Ranges.{each_snoc}
use Rattle.laws.proofs.Places.{part_is, place_is, length_places}
use Rattle.laws.proofs.Rising.{Fits}

module _ (f : ℕ → List ℕ) where
  -- how long the first k lists are
  abbrev laid : ℕ → ℕ
  laid k = length (each f (up_to k))

  laid_more : (k : ℕ) → laid (k + 1) ≡ laid k + length (f k)
  laid_more k = ap length (each_snoc f k) ∙ length-append (each f (up_to k)) (f k)

  laid_rises : (k j : ℕ) → laid k ≤ laid (k + j)
  laid_rises k zero = omega (arith, ap laid (add_none k))
    where
      add_none : (k : ℕ) → k + 0 ≡ k
      add_none k = omega arith
  laid_rises k (suc j) =
      let e : k + suc j ≡ (k + j) + 1 = omega arith in
      omega (arith, laid_rises k j, laid_more (k + j), ap laid e)

  module _ (m : ℕ) (s x : List ℕ) where
    -- what a pass over the starts and the entries finds
    pub record Found : Type 0 where
      pub begins : get_or s 0 0 ≡ 0
      pub ends : get_or s m 0 ≡ length (each f (up_to m))
      pub rises : (k : ℕ) → k < m → get_or s k 0 ≤ get_or s (k + 1) 0
      pub inside : (k : ℕ) → k < m → get_or s (k + 1) 0 ≤ length x
      pub fits : (k : ℕ) → k < m → Fits (part x (get_or s k 0) (get_or s (k + 1) 0)) (f k)

    module _ (found : Found) where
      part_long : (k : ℕ) → k < m → length (part x (get_or s k 0) (get_or s (k + 1) 0)) ≡ get_or s (k + 1) 0 - get_or s k 0
      part_long k h =
          length-take (get_or s (k + 1) 0 - get_or s k 0) (drop (get_or s k 0) x)
          ∙ omega (arith, length-drop (get_or s k 0) x, found.inside k h)

      grows : (k : ℕ) → k < m → get_or s (k + 1) 0 ≤ get_or s k 0 + length (f k)
      grows k h = omega (arith, part_long k h, (found.fits k h).0)

      no_later : (k : ℕ) → k ≤ m → get_or s k 0 ≤ laid k
      no_later zero h = omega (arith, found.begins)
      no_later (suc k) h =
          let e = add-one k in
          omega (arith, no_later k (omega arith), grows k (omega arith), laid_more k, ap laid e, ap (λ (j : ℕ). get_or s j 0) e)

      no_sooner : (j k : ℕ) → k + j ≡ m → laid k ≤ get_or s k 0
      no_sooner zero k h = let e : k ≡ m = omega arith in omega (arith, ap laid e, ap (λ (i : ℕ). get_or s i 0) e, found.ends)
      no_sooner (suc j) k h =
          omega (arith, no_sooner j (k + 1) (omega arith), grows k (omega arith), laid_more k)

      there : (k : ℕ) → k ≤ m → get_or s k 0 ≡ laid k
      there k h = let a = no_later k h in let b = no_sooner (m - k) k (omega arith) in omega arith

      pub starts_forced : length s ≡ m + 1 → s ≡ places f 0 0 m
      starts_forced l =
          ext_get_or 0 s (places f 0 0 m) (l ∙ sym (length_places f 0 0 m))
          (λ k h. there k (omega arith) ∙ sym (place_is f 0 0 m k (omega arith) ∙ zero-add (laid k)))

      run_forced : (k : ℕ) → k < m → part x (get_or s k 0) (get_or s (k + 1) 0) ≡ f k
      run_forced k h =
          (found.fits k h).1
          (omega (arith, part_long k h, there k (omega arith), there (k + 1) (omega arith), laid_more k))

      taken : (k : ℕ) → k ≤ m → take (get_or s k 0) x ≡ each f (up_to k)
      taken zero h = ap (λ (n : ℕ). take n x) found.begins
      taken (suc k) h =
          let e : get_or s (suc k) 0 ≡ get_or s k 0 + (get_or s (k + 1) 0 - get_or s k 0) =
          ap (λ (j : ℕ). get_or s j 0) (sym (add-one k)) ∙ omega (arith, found.rises k (omega arith)) in
          ap (λ (n : ℕ). take n x) e
          ∙ take-add (get_or s k 0) (get_or s (k + 1) 0 - get_or s k 0) x
          ∙ ap₂ ◌++◌ (taken k (omega arith)) (run_forced k (omega arith))
          ∙ sym (each_snoc f k) ∙ ap (λ (j : ℕ). each f (up_to j)) (add-one k)

      pub entries_forced : take (length (each f (up_to m))) x ≡ each f (up_to m)
      entries_forced = ap (λ (n : ℕ). take n x) (sym found.ends) ∙ taken m (omega arith)

    -- and such starts and entries pass
    module _ (es : s ≡ places f 0 0 m) (ex : take (length (each f (up_to m))) x ≡ each f (up_to m)) where
      start_there : (k : ℕ) → k ≤ m → get_or s k 0 ≡ laid k
      start_there k h = ap (λ (l : List ℕ). get_or l k 0) es ∙ place_is f 0 0 m k h ∙ zero-add (laid k)

      pub run_there : (k : ℕ) → k < m → part x (get_or s k 0) (get_or s (k + 1) 0) ≡ f k
      run_there k h =
          ap₂ (λ (l : List ℕ) (t : List ℕ). part t (get_or l k 0) (get_or l (k + 1) 0)) es whole
          ∙ rw (add-one k) (part_is f (drop (laid m) x) 0 m k h ∙ ap f (zero-add k))
        where
          whole : x ≡ each f (up_to m) ++ drop (laid m) x
          whole = sym (take-append-drop (laid m) x) ∙ ap (λ (l : List ℕ). l ++ drop (laid m) x) ex

      pub long_enough : laid m ≤ length x
      long_enough = let e = sym (length-take (laid m) x) ∙ ap length ex in omega arith

      pub start_begins : get_or s 0 0 ≡ 0
      start_begins = start_there 0 (omega arith)

      pub start_ends : get_or s m 0 ≡ length (each f (up_to m))
      start_ends = start_there m (omega arith)

      pub start_rises : (k : ℕ) → k < m → get_or s k 0 ≤ get_or s (k + 1) 0
      start_rises k h = omega (arith, start_there k (omega arith), start_there (k + 1) (omega arith), laid_more k)

      pub start_inside : (k : ℕ) → k < m → get_or s (k + 1) 0 ≤ length x
      start_inside k h =
          let e : (k + 1) + (m - (k + 1)) ≡ m = omega arith in
          omega (arith, start_there (k + 1) (omega arith), laid_rises (k + 1) (m - (k + 1)), ap laid e, long_enough)
