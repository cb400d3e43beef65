-- An ask's machine on built tables: whatever waits, it hands out the next footprints in order and leaves what waits after them, and meets
-- no damage. Assumes nothing.
use mathlib.Core.Path.{◌≡◌, refl, ap, ◌∙◌}
use mathlib.Core.Bool.{false}
use mathlib.Core.List.Memᴰ
use mathlib.Core.List.{List, [], ◌∷◌, ◌++◌, map, append_assoc, append-nil}
use Prim.Native.Nat.{ℕ, zero, suc, ◌+◌, ◌≤◌}
use native.Mathlib.Nat.{le_trans}
use lib.ListN.{length, take, length-map}
use borrow.Author.Tests.{le-leb}
use Rattle.laws.specs.Lists.{each}
use Rattle.laws.proofs.Members.{mem_filter}
use Rattle.laws.proofs.Ordered.{ins_all, length_ins_all}
use Rattle.laws.proofs.Forest.{walk_first, walk_next}
use Rattle.rules.specs.Sizes.{tile_count}
use Rattle.rules.specs.Register.{count}
use Rattle.rules.specs.Tables.{Tables, built_tables}
use Rattle.rules.specs.Walk.{bring, row_writes, square_of, waiting_row, move, machine, step, finish}
use Rattle.rules.specs.declared.Grid.{Grid}
use Rattle.rules.specs.declared.Point.{Point}
use Rattle.rules.specs.declared.Item.{Item}
use Rattle.rules.specs.declared.Item.TheVariants.{Group, Tile, Footprint}
use Rattle.rules.specs.declared.Three.{Three}
use Rattle.rules.proofs.Keys.{rows_ins_all}
use Rattle.rules.proofs.Steps.{finish_step, finish_still}
use Rattle.demands.proofs.Around.{Around, key, Valid, parent, brings, small}
use Rattle.demands.proofs.Opens.{forest, brought}
use Rattle.demands.proofs.Everything.{waits, RestOf}
use Rattle.demands.proofs.Room.{roomy}
use Rattle.demands.proofs.Moves.{group_moves, tile_moves, footprint_moves}
use Rattle.demands.proofs.Taking.{footprints_in, left_after, wanted_after, place_after, next}

module _ (g : Grid) (reg : List ℕ) (q : Point) where
  -- items as waiting rows
  abbrev pub rows_of : List Item → List Three
  rows_of l = map (waiting_row g reg q) l

  -- the numbers that a footprint writes when it is given
  abbrev pub written : ℕ → List ℕ
  written i = row_writes g reg q i (square_of g reg q (Footprint i))

module _ {g : Grid} {reg : List ℕ} {q : Point} (S : Around g reg q) (tail : List ℕ) (whole : ℕ) (room : count reg + tile_count g + 4 ≤ whole) where
  abbrev T : Tables
  T = built_tables g reg tail

  abbrev W : ℕ → List Item → List Item
  W c l = waits g reg q c l

  first : (c : ℕ) (x : Item) (l : List Item) → RestOf g reg q c (x ∷ l) → W c (x ∷ l) ≡ x ∷ W c l
  first c x l R = walk_first (key g reg q) (Valid g reg q) (parent g reg q) (brings g reg q) (forest S) c x l R

  after : (c : ℕ) (x : Item) (l : List Item) → RestOf g reg q c (x ∷ l) → ins_all (key g reg q) (brings g reg q x) (W c l) ≡ W (key g reg q x) l
  after c x l R = walk_next (key g reg q) (Valid g reg q) (parent g reg q) (brings g reg q) (forest S) c x l R

  -- a group or a tile is taken
  opens : (c j : ℕ) (x : Item) (l : List Item) (o : List ℕ) → RestOf g reg q c (x ∷ l)
      → move g T q (waiting_row g reg q x) ≡ bring (rows_of g reg q (brings g reg q x))
      → finish g T q whole (machine (rows_of g reg q (W c (x ∷ l))) o (suc j) false) ≡ finish g T q whole (machine (rows_of g reg q (W (key g reg q x) l)) o (suc j) false)
  unfolding step
  opens c j x l o R e =
      let n : ins_all (key g reg q) (brings g reg q x) (W c l) ≡ W (key g reg q x) l = after c x l R in
      let fits : length (rows_of g reg q (W c l)) + length (rows_of g reg q (brings g reg q x)) ≤ whole =
      rw (length-map (W c l) (waiting_row g reg q), length-map (brings g reg q x) (waiting_row g reg q), ← length_ins_all (key g reg q) (brings g reg q x) (W c l), n)
      (le_trans (roomy S (key g reg q x) l (next S c x l R)) room) in
      ap (λ (w : List Item). finish g T q whole (machine (rows_of g reg q w) o (suc j) false)) (first c x l R)
      ∙ finish_step g T q whole (machine (waiting_row g reg q x ∷ rows_of g reg q (W c l)) o (suc j) false) refl
      ∙ rw (e, le-leb _ _ fits)
      (ap (λ (w : List Three). finish g T q whole (machine w o (suc j) false))
      (rows_ins_all (waiting_row g reg q) (brings g reg q x) (W c l) (λ z m. small S z (brought S x z vx m).0)
      (λ z m. small S z (R.sound z (Memᴰ.tail (mem_filter _ l m).0))) ∙ ap (rows_of g reg q) n))
    where
      vx : Valid g reg q x
      vx = R.sound x (Memᴰ.head refl)

  -- a footprint is taken
  hands : (c j i : ℕ) (l : List Item) (o : List ℕ) → RestOf g reg q c (Footprint i ∷ l)
      → finish g T q whole (machine (rows_of g reg q (W c (Footprint i ∷ l))) o (suc j) false)
      ≡ finish g T q whole (machine (rows_of g reg q (W (key g reg q (Footprint i)) l)) (o ++ written g reg q i) j false)
  unfolding step
  hands c j i l o R =
      ap (λ (w : List Item). finish g T q whole (machine (rows_of g reg q w) o (suc j) false)) (first c (Footprint i) l R)
      ∙ finish_step g T q whole (machine (waiting_row g reg q (Footprint i) ∷ rows_of g reg q (W c l)) o (suc j) false) refl
      ∙ rw (footprint_moves S tail i (R.sound (Footprint i) (Memᴰ.head refl)))
      (ap (λ (w : List Item). finish g T q whole (machine (rows_of g reg q w) (o ++ written g reg q i) j false)) (after c (Footprint i) l R))

  -- an ask of j rows hands out the first j footprints of what is left, in order, and leaves what waits then
  pub ask_is : (j c : ℕ) (l : List Item) (o : List ℕ) → RestOf g reg q c l
      → finish g T q whole (machine (rows_of g reg q (W c l)) o j false)
      ≡ machine (rows_of g reg q (W (place_after g reg q j c l) (left_after j l))) (o ++ each (written g reg q) (take j (footprints_in l))) (wanted_after j l) false
  ask_is zero c l o R = finish_still g T q whole (machine (rows_of g reg q (W c l)) o zero false) refl ∙ rw (append-nil o)
  ask_is (suc j) c [] o R = finish_still g T q whole (machine [] o (suc j) false) refl ∙ rw (append-nil o)
  ask_is (suc j) c (Group d k ∷ l) o R =
      opens c j (Group d k) l o R (group_moves S tail d k (R.sound (Group d k) (Memᴰ.head refl)))
      ∙ ask_is (suc j) (key g reg q (Group d k)) l o (next S c (Group d k) l R)
  ask_is (suc j) c (Tile t ∷ l) o R =
      opens c j (Tile t) l o R (tile_moves S tail t (R.sound (Tile t) (Memᴰ.head refl)))
      ∙ ask_is (suc j) (key g reg q (Tile t)) l o (next S c (Tile t) l R)
  ask_is (suc j) c (Footprint i ∷ l) o R =
      hands c j i l o R
      ∙ ask_is j (key g reg q (Footprint i)) l (o ++ written g reg q i) (next S c (Footprint i) l R)
      ∙ rw (append_assoc o (written g reg q i) (each (written g reg q) (take j (footprints_in l))))
