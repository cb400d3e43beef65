-- Taking items in order until so many footprints are handed out: which are handed out, what is left, and the place that is reached.
-- Assumes nothing.
use mathlib.Core.Path.{◌≡◌, refl, ap, ◌∙◌}
use mathlib.Core.Logic.{◌⊎◌, inl, inr}
use mathlib.Core.List.Memᴰ
use mathlib.Core.List.{List, [], ◌∷◌, Memᴰ}
use Prim.Native.Nat.{ℕ, zero, suc, ◌+◌, ◌-◌, ◌≤◌, ◌<◌}
use native.Mathlib.Nat.{le_trans, le_refl, le_of_lt, le_of_eq, zero-add, suc-add, not-suc-le-zero}
use native.Mathlib.Omega.{arith}
use lib.ListN.{length, take, drop, get_or}
use Rattle.laws.proofs.Forest.{rest_next}
use Rattle.rules.specs.declared.Grid.{Grid}
use Rattle.rules.specs.declared.Point.{Point}
use Rattle.rules.specs.declared.Item.{Item}
use Rattle.rules.specs.declared.Item.TheVariants.{Group, Tile, Footprint}
use Rattle.demands.proofs.Around.{Around, key, Valid, parent, brings}
use Rattle.demands.proofs.Opens.{forest}
use Rattle.demands.proofs.Everything.{RestOf}

-- the footprints among items, in order
abbrev pub footprints_in : List Item → List ℕ
footprints_in [] = []
footprints_in (Group d k ∷ l) = footprints_in l
footprints_in (Tile t ∷ l) = footprints_in l
footprints_in (Footprint i ∷ l) = i ∷ footprints_in l

-- what is left once j footprints are handed out, or there are no more
abbrev pub left_after : ℕ → List Item → List Item
left_after zero l = l
left_after (suc j) [] = []
left_after (suc j) (Group d k ∷ l) = left_after (suc j) l
left_after (suc j) (Tile t ∷ l) = left_after (suc j) l
left_after (suc j) (Footprint i ∷ l) = left_after j l

-- how many are still wanted then
abbrev pub wanted_after : ℕ → List Item → ℕ
wanted_after zero l = zero
wanted_after (suc j) [] = suc j
wanted_after (suc j) (Group d k ∷ l) = wanted_after (suc j) l
wanted_after (suc j) (Tile t ∷ l) = wanted_after (suc j) l
wanted_after (suc j) (Footprint i ∷ l) = wanted_after j l

-- the place of the last item taken, from place c on
abbrev pub place_after : Grid → List ℕ → Point → ℕ → ℕ → List Item → ℕ
place_after g reg q zero c l = c
place_after g reg q (suc j) c [] = c
place_after g reg q (suc j) c (Group d k ∷ l) = place_after g reg q (suc j) (key g reg q (Group d k)) l
place_after g reg q (suc j) c (Tile t ∷ l) = place_after g reg q (suc j) (key g reg q (Tile t)) l
place_after g reg q (suc j) c (Footprint i ∷ l) = place_after g reg q j (key g reg q (Footprint i)) l

-- ---- lists alone

pub left_more : (j k : ℕ) (l : List Item) → left_after k (left_after j l) ≡ left_after (j + k) l
left_more zero k l = rw (zero-add k)
left_more (suc j) zero [] = rw (suc-add j zero)
left_more (suc j) (suc k) [] = rw (suc-add j (suc k))
left_more (suc j) k (Group d m ∷ l) = left_more (suc j) k l ∙ rw (suc-add j k)
left_more (suc j) k (Tile t ∷ l) = left_more (suc j) k l ∙ rw (suc-add j k)
left_more (suc j) k (Footprint i ∷ l) = rw (suc-add j k) (left_more j k l)

pub footprints_left : (j : ℕ) (l : List Item) → footprints_in (left_after j l) ≡ drop j (footprints_in l)
footprints_left zero l = refl
footprints_left (suc j) [] = refl
footprints_left (suc j) (Group d m ∷ l) = footprints_left (suc j) l
footprints_left (suc j) (Tile t ∷ l) = footprints_left (suc j) l
footprints_left (suc j) (Footprint i ∷ l) = footprints_left j l

pub still_wanted : (j : ℕ) (l : List Item) → wanted_after j l ≡ j - length (footprints_in l)
still_wanted zero l = omega arith
still_wanted (suc j) [] = omega arith
still_wanted (suc j) (Group d m ∷ l) = still_wanted (suc j) l
still_wanted (suc j) (Tile t ∷ l) = still_wanted (suc j) l
still_wanted (suc j) (Footprint i ∷ l) = let e = still_wanted j l in omega arith

-- where more are wanted than there are, nothing is left
pub none_left : (j : ℕ) (l : List Item) → length (footprints_in l) < j → left_after j l ≡ []
none_left zero l h = absurd (not-suc-le-zero h)
none_left (suc j) [] h = refl
none_left (suc j) (Group d m ∷ l) h = none_left (suc j) l h
none_left (suc j) (Tile t ∷ l) h = none_left (suc j) l h
none_left (suc j) (Footprint i ∷ l) h = none_left j l (omega arith)

pub footprint_in : (i : ℕ) (l : List Item) → Memᴰ i (footprints_in l) → Memᴰ (Footprint i) l
footprint_in i [] m = absurd (Memᴰ.not-nil m)
footprint_in i (Group d k ∷ l) m = Memᴰ.tail (footprint_in i l m)
footprint_in i (Tile t ∷ l) m = Memᴰ.tail (footprint_in i l m)
footprint_in i (Footprint k ∷ l) m = go (Memᴰ.cases_cons m) (λ n. footprint_in i l n)
  where
    go : (i ≡ k) ⊎ Memᴰ i (footprints_in l) → (Memᴰ i (footprints_in l) → Memᴰ (Footprint i) l) → Memᴰ (Footprint i) (Footprint k ∷ l)
    go (inl e) below = Memᴰ.head (ap Footprint e)
    go (inr n) below = Memᴰ.tail (below n)

pub in_footprints : (i : ℕ) (l : List Item) → Memᴰ (Footprint i) l → Memᴰ i (footprints_in l)
in_footprints i [] m = absurd (Memᴰ.not-nil m)
in_footprints i (x ∷ l) m = go x (Memᴰ.cases_cons m) (λ n. in_footprints i l n)
  where
    go : (x : Item) → (Footprint i ≡ x) ⊎ Memᴰ (Footprint i) l → (Memᴰ (Footprint i) l → Memᴰ i (footprints_in l)) → Memᴰ i (footprints_in (x ∷ l))
    go (Group d k) (inl e) below = let u : ◌≡◌ {A = ℕ} 0 1 = cc in absurd (omega arith)
    go (Tile t) (inl e) below = let u : ◌≡◌ {A = ℕ} 0 1 = cc in absurd (omega arith)
    go (Footprint k) (inl e) below = Memᴰ.head (same e)
      where
        same : Footprint i ≡ Footprint k → i ≡ k
        same e = cc
    go (Group d k) (inr n) below = below n
    go (Tile t) (inr n) below = below n
    go (Footprint k) (inr n) below = Memᴰ.tail (below n)

-- ---- places

module _ (g : Grid) (reg : List ℕ) (q : Point) where
  abbrev K : Item → ℕ
  K z = key g reg q z

  abbrev reached : ℕ → ℕ → List Item → ℕ
  reached j c l = place_after g reg q j c l

  pub place_more : (j k c : ℕ) (l : List Item) → reached k (reached j c l) (left_after j l) ≡ reached (j + k) c l
  place_more zero k c l = rw (zero-add k)
  place_more (suc j) zero c [] = rw (suc-add j zero)
  place_more (suc j) (suc k) c [] = rw (suc-add j (suc k))
  place_more (suc j) k c (Group d m ∷ l) = place_more (suc j) k (K (Group d m)) l ∙ rw (suc-add j k)
  place_more (suc j) k c (Tile t ∷ l) = place_more (suc j) k (K (Tile t)) l ∙ rw (suc-add j k)
  place_more (suc j) k c (Footprint i ∷ l) = rw (suc-add j k) (place_more j k (K (Footprint i)) l)

  -- where so many are handed out, the place reached is that of the last
  pub last_place : (j c : ℕ) (l : List Item) → suc j ≤ length (footprints_in l)
      → reached (suc j) c l ≡ K (Footprint (get_or (footprints_in l) j 0))
  last_place j c [] h = absurd (not-suc-le-zero h)
  last_place j c (Group d m ∷ l) h = last_place j (K (Group d m)) l h
  last_place j c (Tile t ∷ l) h = last_place j (K (Tile t)) l h
  last_place zero c (Footprint i ∷ l) h = refl
  last_place (suc j) c (Footprint i ∷ l) h = last_place j (K (Footprint i)) l (omega arith)

module _ {g : Grid} {reg : List ℕ} {q : Point} (S : Around g reg q) where
  abbrev placed : ℕ → ℕ → List Item → ℕ
  placed j c l = place_after g reg q j c l

  pub next : (c : ℕ) (x : Item) (l : List Item) → RestOf g reg q c (x ∷ l) → RestOf g reg q (key g reg q x) l
  next c x l R = rest_next (key g reg q) (Valid g reg q) (parent g reg q) (brings g reg q) (forest S) c x l R

  -- what is left is all that lies above the place reached
  pub rest_after : (j c : ℕ) (l : List Item) → RestOf g reg q c l → RestOf g reg q (placed j c l) (left_after j l)
  rest_after zero c l R = R
  rest_after (suc j) c [] R = R
  rest_after (suc j) c (Group d m ∷ l) R = rest_after (suc j) (key g reg q (Group d m)) l (next c (Group d m) l R)
  rest_after (suc j) c (Tile t ∷ l) R = rest_after (suc j) (key g reg q (Tile t)) l (next c (Tile t) l R)
  rest_after (suc j) c (Footprint i ∷ l) R = rest_after j (key g reg q (Footprint i)) l (next c (Footprint i) l R)

  not_back : (j c : ℕ) (l : List Item) → RestOf g reg q c l → c ≤ placed j c l
  not_back zero c l R = le_refl c
  not_back (suc j) c [] R = le_refl c
  not_back (suc j) c (Group d m ∷ l) R = le_trans (le_of_lt R.up.0) (not_back (suc j) (key g reg q (Group d m)) l (next c (Group d m) l R))
  not_back (suc j) c (Tile t ∷ l) R = le_trans (le_of_lt R.up.0) (not_back (suc j) (key g reg q (Tile t)) l (next c (Tile t) l R))
  not_back (suc j) c (Footprint i ∷ l) R = le_trans (le_of_lt R.up.0) (not_back j (key g reg q (Footprint i)) l (next c (Footprint i) l R))

  -- a footprint that was handed out lies at or before the place reached
  pub handed_before : (j c : ℕ) (l : List Item) → RestOf g reg q c l → (i : ℕ) → Memᴰ i (take j (footprints_in l))
      → key g reg q (Footprint i) ≤ placed j c l
  handed_before zero c l R i m = absurd (Memᴰ.not-nil m)
  handed_before (suc j) c [] R i m = absurd (Memᴰ.not-nil m)
  handed_before (suc j) c (Group d k ∷ l) R i m = handed_before (suc j) (key g reg q (Group d k)) l (next c (Group d k) l R) i m
  handed_before (suc j) c (Tile t ∷ l) R i m = handed_before (suc j) (key g reg q (Tile t)) l (next c (Tile t) l R) i m
  handed_before (suc j) c (Footprint k ∷ l) R i m = go (Memᴰ.cases_cons m) (λ n. handed_before j (key g reg q (Footprint k)) l (next c (Footprint k) l R) i n)
    where
      go : (i ≡ k) ⊎ Memᴰ i (take j (footprints_in l)) → (Memᴰ i (take j (footprints_in l)) → key g reg q (Footprint i) ≤ placed j (key g reg q (Footprint k)) l)
          → key g reg q (Footprint i) ≤ placed j (key g reg q (Footprint k)) l
      go (inl e) below = le_trans (le_of_eq (ap (λ (n : ℕ). key g reg q (Footprint n)) e)) (not_back j (key g reg q (Footprint k)) l (next c (Footprint k) l R))
      go (inr n) below = below n
