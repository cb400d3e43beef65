-- The pairs of each loop are those of the loop within it, one after the other, down from the rules' list. Assumes nothing.
use mathlib.Core.Path.{◌≡◌, refl, sym, ap, ◌∙◌}
use mathlib.Core.Bool.{Bool, true, false}
use mathlib.Core.List.{List, [], ◌∷◌}
use Prim.Native.Nat.{ℕ, ◌<◌}
use native.Mathlib.Nat.{not-suc-le-zero}
use native.Mathlib.Omega.{arith}
use lib.ListN.{length}
use Rattle.laws.specs.Lists.{up_to, each, only}
use Rattle.laws.proofs.Lists.{each_same, each_filter}
use Rattle.laws.proofs.Rows.{each_each, each_alone}
use Rattle.laws.proofs.Lists.{each_empty}
use Rattle.rules.specs.Sizes.{bad_sizes, tile_count, tiles, row_of, column_of}
use Rattle.rules.specs.Span.{Place, place}
use Rattle.rules.specs.Classes.{classes, marked, marked_in}
use Rattle.rules.specs.Tables.{Tables, run_no, run_at}
use Rattle.rules.specs.Join.{Pair, run_pairs, class_pairs, tile_pairs, join_pairs}
use Rattle.rules.specs.JoinSteps.{has_tile, tile_at}
use Rattle.rules.specs.declared.Grid.{Grid}
use Rattle.rules.proofs.Good.{good_sizes}
use Rattle.rules.proofs.JoinCode.{neighbours_by_position, run_pairs_by_two}
use Rattle.grid.specs.Places.{position, is_on}
use Rattle.join.specs.Keeping.{Kept, kept}
use Rattle.join.specs.Levels.{position_of, one_pair, entry_pairs, runs_pairs, marked_pairs, pairs_at, around_pairs}

-- ---- two runs

-- the mark at the position of two tiles is the join's rule for them
pub mark_at : (g : Grid) (t u a b p mask : ℕ) → p ≡ position_of g t u
    → ((px py : Place) → is_on mask (position px py) ≡ marked px py a b) → is_on mask p ≡ marked_in g t u a b
unfolding position_of marked_in
mark_at g t u a b p mask e h = ap (is_on mask) e ∙ h (place (column_of g u) (column_of g t)) (place (row_of g u) (row_of g t))

module _ (g : Grid) (reg_r : List ℕ) (ts : Tables) (r t u a : ℕ) (l : List ℕ) (b : ℕ) where
  pub marked_pairs_law : (k m : ℕ) (reg reg_s ls : List ℕ) → marked_in g t u a b ≡ true → reg ≡ reg_r → k ≡ run_no t a → reg_s ≡ ts.reg → m ≡ run_no u b → ls ≡ run_at ts (run_no u b)
      → marked_pairs g reg_r ts r t u a l b ≡ runs_pairs g reg reg_s r k m l ls
  unfolding marked_pairs
  marked_pairs_law k m reg reg_s ls e er ek es em el = rw (e, er, ek, es, em, el)

  pub unmarked_pairs : marked_in g t u a b ≡ false → marked_pairs g reg_r ts r t u a l b ≡ []
  unfolding marked_pairs
  unmarked_pairs e = rw e

-- an empty run of R has none
empty_pairs : (g : Grid) (reg_r : List ℕ) (ts : Tables) (r t u a : ℕ) (l : List ℕ) → length l ≡ 0 → (b : ℕ) → marked_pairs g reg_r ts r t u a l b ≡ []
unfolding marked_pairs runs_pairs
empty_pairs g reg_r ts r t u a [] h b = go (marked_in g t u a b)
  where
    go : (x : Bool) → only {A = Pair} x [] ≡ []
    go true = refl
    go false = refl
empty_pairs g reg_r ts r t u a (i ∷ l) h b = absurd (not-suc-le-zero {n = 0} (omega arith))

-- nor has one of S
pub no_entries : (g : Grid) (reg_r : List ℕ) (ts : Tables) (r t u a : ℕ) (l : List ℕ) (b m : ℕ) (ls : List ℕ)
    → m ≡ run_no u b → ls ≡ run_at ts m → length ls ≡ 0 → marked_pairs g reg_r ts r t u a l b ≡ []
unfolding marked_pairs runs_pairs entry_pairs
no_entries g reg_r ts r t u a l b m ls em el h =
    rw (← em, ← el) (ap (only (marked_in g t u a b)) (each_empty _ l (λ i. none i ls h)) ∙ go (marked_in g t u a b))
  where
    none : (i : ℕ) (ls : List ℕ) → length ls ≡ 0 → each (one_pair g reg_r ts.reg r (run_no t a) m i) ls ≡ []
    none i [] h = refl
    none i (j ∷ ls) h = absurd (not-suc-le-zero {n = 0} (omega arith))

    go : (x : Bool) → only {A = Pair} x [] ≡ []
    go true = refl
    go false = refl

-- ---- a class of R's tile with S's tile

module _ (g : Grid) (sizes : bad_sizes g ≡ false) (tr ts : Tables) (r t u a : ℕ) (l : List ℕ) (e : l ≡ run_at tr (run_no t a)) where
  pub class_pairs_law : class_pairs g tr ts r t u a ≡ each (marked_pairs g tr.reg ts r t u a l) (up_to 16)
  unfolding class_pairs classes marked_pairs runs_pairs entry_pairs one_pair
  class_pairs_law =
      each_filter (marked_in g t u a) (λ b. run_pairs g tr ts r (run_no t a) (run_no u b)) classes
      ∙ each_same _ _ classes (λ b.
      ap (only (marked_in g t u a b)) (run_pairs_by_two g tr ts r (run_no t a) (run_no u b)
      ∙ ap (λ (x : List ℕ). runs_pairs g tr.reg ts.reg r (run_no t a) (run_no u b) x (run_at ts (run_no u b))) (sym e)))

  pub class_empty : length l ≡ 0 → class_pairs g tr ts r t u a ≡ []
  class_empty h = class_pairs_law ∙ each_empty (marked_pairs g tr.reg ts r t u a l) (up_to 16) (λ b. empty_pairs g tr.reg ts r t u a l h b)

-- ---- R's tile with S's tiles

module _ (g : Grid) (sizes : bad_sizes g ≡ false) (tr ts : Tables) (r : ℕ) where
  pub around_pairs_law : (t : ℕ) → t < tile_count g → around_pairs g tr ts r t ≡ each (pairs_at g tr ts r t) (up_to 9)
  unfolding around_pairs pairs_at
  around_pairs_law t h =
      ap (each (tile_pairs g tr ts r t)) (neighbours_by_position g (good_sizes g sizes) t h)
      ∙ each_each (tile_pairs g tr ts r t) (λ p. only (has_tile g t p) (tile_at g t p ∷ [])) (up_to 9)
      ∙ each_same _ _ (up_to 9) (λ p. each_alone (tile_pairs g tr ts r t) (has_tile g t p) (tile_at g t p))

pub tile_pairs_law : (g : Grid) (tr ts : Tables) (r t u : ℕ) → tile_pairs g tr ts r t u ≡ each (class_pairs g tr ts r t u) (up_to 16)
unfolding tile_pairs classes
tile_pairs_law g tr ts r t u = refl

pub join_pairs_law : (g : Grid) (tr ts : Tables) (r : ℕ) → join_pairs g tr ts r ≡ each (around_pairs g tr ts r) (up_to (tile_count g))
unfolding join_pairs around_pairs tiles
join_pairs_law g tr ts r = refl

module _ (g : Grid) (tr ts : Tables) (r t p : ℕ) where
  pub pairs_at_law : (u : ℕ) → has_tile g t p ≡ true → u ≡ tile_at g t p → pairs_at g tr ts r t p ≡ tile_pairs g tr ts r t u
  unfolding pairs_at
  pairs_at_law u e f = rw (e, f)

  pub no_pairs_at : has_tile g t p ≡ false → pairs_at g tr ts r t p ≡ []
  unfolding pairs_at
  no_pairs_at e = rw e

-- ---- nothing is kept of no pairs

pub keeps_none : (s : Kept) {l : List Pair} → l ≡ [] → s ≡ kept s l
unfolding kept
keeps_none s e = rw e
