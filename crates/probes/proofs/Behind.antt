-- Lists laid one behind the other in what is lent, and one number more in a list that is filled from the front. Assumes nothing.
use mathlib.Core.Path.{◌≡◌, refl, sym, ap, ◌∙◌}
use mathlib.Core.List.{List, [], ◌∷◌, ◌++◌, append_assoc, append-nil}
use Prim.Native.Nat.{ℕ, suc, ◌+◌, ◌-◌, ◌≤◌, ◌<◌, min}
use native.Mathlib.Omega.{arith}
use lib.ListN.{length, take, drop, set, length-append, length-drop, take-append-drop, drop_of_length-le}
use lib.Seq.{take-suc-set, drop-set-lt, drop-drop, length-take-le, take_all, take_at, drop_at}
use borrow.Author.Tests.{le-leb, lt-leb, leb-true}
use Rattle.laws.specs.Lists.{over}
use Rattle.laws.proofs.Choices.{by_cond}
use Rattle.laws.proofs.Lists.{empty}
use Rattle.laws.proofs.Tests.{by_le}
use Rattle.probes.specs.Listing.{keep_at}

-- numbers w at place a, where they find room
pub behind_length : (lent : List ℕ) (a : ℕ) (w : List ℕ) → a + length w ≤ length lent → length (take a lent ++ over w (drop a lent)) ≡ length lent
behind_length lent a w h =
    omega (
      arith,
      length-append (take a lent) (over w (drop a lent)),
      length-append w (drop (length w) (drop a lent)),
      length-take-le a lent (omega arith),
      length-drop (length w) (drop a lent),
      length-drop a lent,
    )

-- and where they do not
pub kept_length : (a : ℕ) (w lent : List ℕ) → length (keep_at a w lent) ≡ length lent
unfolding keep_at
kept_length a w lent =
    by_cond (λ (l : List ℕ). length l ≡ length lent) _ (take a lent ++ over w (drop a lent)) lent
    (λ e. behind_length lent a w (leb-true _ _ e))
    (λ e. refl)

-- ---- one more

-- a list more, behind those that stand
pub behind_more : (lent : List ℕ) (a : ℕ) (w r : List ℕ) → a ≤ length lent
    → take (a + length w) (take a lent ++ over w (drop a lent)) ++ over r (drop (a + length w) (take a lent ++ over w (drop a lent)))
    ≡ take a lent ++ over (w ++ r) (drop a lent)
behind_more lent a w r h =
    let q = take a lent ++ w in
    let d = drop (length w) (drop a lent) in
    let e : length q ≡ a + length w = omega (arith, length-append (take a lent) w, length-take-le a lent h) in
    let s : take a lent ++ over w (drop a lent) ≡ q ++ d = sym (append_assoc (take a lent) w d) in
    rw (s, take_at q d (a + length w) e, drop_at q d (a + length w) e, length-append, ← drop-drop) (simp append_assoc)

-- a number more, in a list that is filled from the front
pub front_more : (l : List ℕ) (i x : ℕ) (r : List ℕ) → i < length l
    → take (suc i) (set l i x) ++ over r (drop (suc i) (set l i x)) ≡ take i l ++ over (x ∷ r) (drop i l)
front_more l i x r h =
    let e : suc i + length r ≡ i + suc (length r) = omega arith in
    rw (take-suc-set l i x h, drop-set-lt (suc i) l i x (omega arith), append_assoc, drop-drop (length r) (suc i) l, drop-drop (suc (length r)) i l, e)

-- ---- a part that is lent to the end

pub tail_part : (lent : List ℕ) (a : ℕ) → take (length lent - a) (drop a lent) ≡ drop a lent
tail_part lent a = take_all (length lent - a) (drop a lent) (omega (arith, length-drop a lent))

-- it comes back behind the front
pub tail_back : (lent : List ℕ) (a : ℕ) (l : List ℕ) → take a lent ++ (l ++ drop (length lent - a) (drop a lent)) ≡ take a lent ++ l
tail_back lent a l =
    let h : length (drop a lent) ≤ length lent - a = omega (arith, length-drop a lent) in
    let e : drop (length lent - a) (drop a lent) ≡ [] = drop_of_length-le (drop a lent) h in
    ap (λ (r : List ℕ). take a lent ++ (l ++ r)) e ∙ ap (λ (r : List ℕ). take a lent ++ r) (append-nil l)

-- ---- the place of a list

module _ (total : ℕ) (w lent : List ℕ) where
  pub kept_fits : total + length w ≤ length lent → keep_at total w lent ≡ take total lent ++ over w (drop total lent)
  unfolding keep_at
  kept_fits h = rw (le-leb (total + length w) (length lent) h)

  pub kept_not : length lent < total + length w → keep_at total w lent ≡ lent
  unfolding keep_at
  kept_not h = rw (lt-leb (total + length w) (length lent) h)

  module _ (a : ℕ) (e : a ≡ min (length lent) total) where
    -- there is room for it in what is left
    pub place_fits : length w ≤ length (drop a lent) → take a lent ++ over w (drop a lent) ≡ keep_at total w lent
    place_fits h =
        by_le (length lent) total
        (λ k.
        let f : a ≡ length lent = omega arith in
        let n : length w ≡ 0 = omega (arith, length-drop a lent) in
        let z : w ≡ [] = empty w (omega arith) in
        let o : take a lent ++ over w (drop a lent) ≡ lent = ap (λ (l : List ℕ). take a lent ++ over l (drop a lent)) z ∙ take-append-drop a lent in
        by_le total (length lent)
        (λ j. let s : a ≡ total = omega arith in ap (λ (b : ℕ). take b lent ++ over w (drop b lent)) s ∙ sym (kept_fits (omega arith)))
        (λ j. o ∙ sym (kept_not (omega arith))))
        (λ k.
        let f : a ≡ total = omega arith in
        ap (λ (b : ℕ). take b lent ++ over w (drop b lent)) f ∙ sym (kept_fits (omega (arith, length-drop a lent))))

    pub place_lacks : length (drop a lent) < length w → lent ≡ keep_at total w lent
    place_lacks h =
        by_le (length lent) total
        (λ k. sym (kept_not (omega arith)))
        (λ k. let f : a ≡ total = omega arith in sym (kept_not (omega (arith, length-drop a lent))))
