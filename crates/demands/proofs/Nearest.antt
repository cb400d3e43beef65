-- All footprints by square, then number: they are the footprints of all items in the order of a walk. What their rows write, and what waits
-- once so many of them were asked for. Assumes nothing.
use mathlib.Core.Path.{◌≡◌, refl, sym, ap, ap₂, ◌∙◌, subst}
use mathlib.Core.Logic.{◌⊎◌, inl, inr}
use mathlib.Core.Bool.{Bool, true, false}
use mathlib.Core.List.{List, [], ◌∷◌, ◌++◌, map, Memᴰ}
use Prim.Native.Nat.{ℕ, zero, suc, ◌≤◌, ◌<◌, suc-le-suc}
use native.Mathlib.Nat.{le_trans, lt_irrefl, not-suc-le-zero}
use native.Mathlib.Omega.{arith}
use lib.Dec.{leb, ltb, eqb}
use lib.ListN.{length, take, drop, get_or, take-append-drop}
use borrow.Author.Tests.{leb-true, le-leb, lt-ltb, le-ltb}
use Rattle.laws.specs.Lists.{filter, up_to, each, any}
use Rattle.laws.proofs.Tests.{by_le, iff}
use Rattle.laws.proofs.Apart.{Apart, apart_map, apart_filter}
use Rattle.laws.proofs.Filters.{filter_all, any_number, number_any}
use Rattle.laws.proofs.Maps.{map_map, at_place}
use Rattle.laws.proofs.Ordered.{above_mem}
use Rattle.laws.proofs.Forest.{named_in_order}
use Rattle.rules.specs.Register.{count, footprints}
use Rattle.rules.specs.Tables.{Tables, built_tables}
use Rattle.rules.specs.Front.{encoded}
use Rattle.rules.specs.Walk.{row_writes, square_of, waiting_row}
use Rattle.rules.specs.Waits.{front_after, nearest}
use Rattle.rules.specs.declared.Grid.{Grid}
use Rattle.rules.specs.declared.Point.{Point}
use Rattle.rules.specs.declared.Item.{Item}
use Rattle.rules.specs.declared.Item.TheVariants.{Group, Tile, Footprint}
use Rattle.rules.specs.declared.Three.{Three}
use Rattle.rules.proofs.Keys.{rows_ins_all}
use Rattle.demands.specs.Asking.{rows_written, last_square, waiting_now}
use Rattle.demands.proofs.Around.{Around, key, Valid, parent, brings, small, one_key, key_pos, same_footprint}
use Rattle.demands.proofs.Opens.{forest}
use Rattle.demands.proofs.Everything.{ordered, waits, RestOf, all_left, footprint_there, there_footprint}
use Rattle.demands.proofs.Start.{start_front_law}
use Rattle.demands.proofs.Taking.{footprints_in, left_after, place_after, footprints_left, none_left, footprint_in, in_footprints, last_place, rest_after, handed_before}
use Rattle.demands.proofs.Machine.{rows_of, written}
use Rattle.demands.proofs.FrontAfter.{front_after_law}

abbrev pub is_footprint : Item → Bool
is_footprint (Group d l) = false
is_footprint (Tile t) = false
is_footprint (Footprint i) = true

pub only_footprints : (l : List Item) → filter is_footprint l ≡ map Footprint (footprints_in l)
only_footprints [] = refl
only_footprints (Group d k ∷ l) = only_footprints l
only_footprints (Tile t ∷ l) = only_footprints l
only_footprints (Footprint i ∷ l) = ap (λ (m : List Item). Footprint i ∷ m) (only_footprints l)

module _ (g : Grid) (reg : List ℕ) (q : Point) where
  -- the numbers of all footprints, in the order of a walk
  abbrev pub in_order : List ℕ
  in_order = footprints_in (ordered g reg q)

  -- a footprint's row
  abbrev pub row_for : ℕ → Three
  row_for i = waiting_row g reg q (Footprint i)

  row_number : (i : ℕ) → (row_for i).number ≡ i
  unfolding waiting_row encoded
  row_number i = refl

  row_square : (i : ℕ) → (row_for i).square ≡ square_of g reg q (Footprint i)
  unfolding waiting_row encoded
  row_square i = refl

  pub row_numbers_law : (l : List ℕ) → map (λ (a : Three). a.number) (map row_for l) ≡ l
  row_numbers_law [] = refl
  row_numbers_law (x ∷ l) = ap₂ ◌∷◌ (row_number x) (row_numbers_law l)

  pub rows_write : (l : List ℕ) → rows_written g reg q (map row_for l) ≡ each (written g reg q) l
  unfolding rows_written
  rows_write [] = refl
  rows_write (x ∷ l) = ap₂ ◌++◌ (ap₂ (row_writes g reg q) (row_number x) (row_square x)) (rows_write l)

  -- the last of so many rows
  last_square_law : (x m : ℕ) (l : List ℕ) → m ≤ length l → last_square (square_of g reg q (Footprint x)) (map row_for (take m l)) ≡ square_of g reg q (Footprint (get_or (x ∷ l) m 0))
  unfolding last_square
  last_square_law x zero l h = refl
  last_square_law x (suc m) [] h = absurd (not-suc-le-zero h)
  last_square_law x (suc m) (y ∷ l) h = rw (row_square y) (last_square_law y m l (omega arith))

  -- after rows of which the last is known, what waits is named for its square
  pub waiting_given : (t : Tables) (m : ℕ) (l : List ℕ) → t.reg ≡ reg → suc m ≤ length l
      → waiting_now g t q (map row_for (take (suc m) l)) false ≡ front_after g reg q (square_of g reg q (Footprint (get_or l m 0))) (take (suc m) l)
  unfolding waiting_now
  waiting_given t m [] e h = absurd (not-suc-le-zero h)
  waiting_given t m (x ∷ l) e h = rw (e, row_number x, row_square x, row_numbers_law (take m l), last_square_law x m l (omega arith))

module _ {g : Grid} {reg : List ℕ} {q : Point} (S : Around g reg q) where
  abbrev K : Item → ℕ
  K z = key g reg q z

  -- all footprints by square, then number, are those of all items in order
  pub nearest_is : nearest g reg q ≡ map (row_for g reg q) (in_order g reg q)
  unfolding nearest
  nearest_is =
      rows_ins_all (waiting_row g reg q) (map Footprint (footprints reg)) [] (λ z m. small S z (valid z m)) (λ z m. absurd (mathlib.Core.List.Memᴰ.not-nil m))
      ∙ ap (rows_of g reg q)
      (named_in_order K (Valid g reg q) (parent g reg q) (brings g reg q) (forest S) 0 (ordered g reg q) (all_left S) (map Footprint (footprints reg)) is_footprint
      apart (λ z m. (valid z m, key_pos S z (valid z m), is z m)) (λ z v k e. back z v e)
      ∙ only_footprints (ordered g reg q))
      ∙ map_map Footprint (waiting_row g reg q) (in_order g reg q)
    where
      valid : (z : Item) → Memᴰ z (map Footprint (footprints reg)) → Valid g reg q z
      valid z m = let o = mathlib.Core.List.Memᴰ.of_map Footprint (footprints reg) m in rw (sym o.2) (footprint_there S o.0 o.1)

      is : (z : Item) → Memᴰ z (map Footprint (footprints reg)) → is_footprint z ≡ true
      is z m = let o = mathlib.Core.List.Memᴰ.of_map Footprint (footprints reg) m in ap is_footprint (sym o.2)

      back : (z : Item) → Valid g reg q z → is_footprint z ≡ true → Memᴰ z (map Footprint (footprints reg))
      back (Group d l) v e = let u : ◌≡◌ {A = ℕ} 0 1 = cc in absurd (omega arith)
      back (Tile t) v e = let u : ◌≡◌ {A = ℕ} 0 1 = cc in absurd (omega arith)
      back (Footprint i) v e = mathlib.Core.List.Memᴰ.map Footprint (there_footprint S i v)

      apart : Apart K (map Footprint (footprints reg))
      apart =
          apart_map K Footprint (footprints reg) (unfold footprints in rw (filter_all (λ (i : ℕ). true) (up_to (count reg)) (λ z m. refl)) at (apart_filter (λ (i : ℕ). true) 0 (count reg)))
          (λ a b ma mb e. same_footprint a b (one_key S (Footprint a) (Footprint b) (footprint_there S a ma) (footprint_there S b mb) e))

  -- a footprint in order is one of the register
  pub in_order_lt : (i : ℕ) → Memᴰ i (in_order g reg q) → i < count reg
  in_order_lt i m = (all_left S).sound (Footprint i) (footprint_in i (ordered g reg q) m)

  -- the footprints given when k are asked for are those up to the place reached
  given_are : (k i : ℕ) → i < count reg → any (eqb i) (take k (in_order g reg q)) ≡ leb (K (Footprint i)) (place_after g reg q k 0 (ordered g reg q))
  given_are k i v = iff _ _ there back
    where
      there : any (eqb i) (take k (footprints_in (ordered g reg q))) ≡ true → leb (K (Footprint i)) (place_after g reg q k 0 (ordered g reg q)) ≡ true
      there e = le-leb _ _ (handed_before S k 0 (ordered g reg q) (all_left S) i (any_number i (take k (footprints_in (ordered g reg q))) e))

      cases : K (Footprint i) ≤ place_after g reg q k 0 (ordered g reg q)
          → Memᴰ i (take k (footprints_in (ordered g reg q))) ⊎ Memᴰ i (drop k (footprints_in (ordered g reg q)))
          → any (eqb i) (take k (footprints_in (ordered g reg q))) ≡ true
      cases h (inl m) = number_any i _ m
      cases h (inr m) =
          let n : Memᴰ (Footprint i) (left_after k (ordered g reg q)) = footprint_in i (left_after k (ordered g reg q)) (rw (footprints_left k (ordered g reg q)) m) in
          absurd (lt_irrefl (K (Footprint i)) (le_trans (suc-le-suc h) (above_mem K (left_after k (ordered g reg q)) (rest_after S k 0 (ordered g reg q) (all_left S)).up n)))

      back : leb (K (Footprint i)) (place_after g reg q k 0 (ordered g reg q)) ≡ true → any (eqb i) (take k (footprints_in (ordered g reg q))) ≡ true
      back e =
          let m : Memᴰ i (footprints_in (ordered g reg q)) = in_footprints i (ordered g reg q) ((all_left S).complete (Footprint i) v (key_pos S (Footprint i) v)) in
          cases (leb-true _ _ e) (mathlib.Core.List.Memᴰ.append_cases (take k (footprints_in (ordered g reg q))) (rw (take-append-drop k (footprints_in (ordered g reg q))) m))

  -- what waits once k rows were asked for
  abbrev pub rows_at : ℕ → List Three
  rows_at k = rows_of g reg q (waits g reg q (place_after g reg q k 0 (ordered g reg q)) (left_after k (ordered g reg q)))

  -- is what waits after those rows
  pub waiting_at : (tail : List ℕ) (k : ℕ)
      → rows_at k ≡ waiting_now g (built_tables g reg tail) q (map (row_for g reg q) (take k (in_order g reg q))) (ltb (length (in_order g reg q)) k)
  waiting_at tail k =
      by_le k (length (in_order g reg q)) (λ h. rw (le-ltb _ _ h) (within k h)) (λ h. rw (lt-ltb _ _ h, none_left k (ordered g reg q) h) (unfold waiting_now in refl))
    where
      within : (k : ℕ) → k ≤ length (in_order g reg q) → rows_at k ≡ waiting_now g (built_tables g reg tail) q (map (row_for g reg q) (take k (in_order g reg q))) false
      within zero h = unfold waiting_now in sym (start_front_law S tail)
      within (suc m) h =
          let e : place_after g reg q (suc m) 0 (ordered g reg q) ≡ K (Footprint (get_or (in_order g reg q) m 0)) = last_place g reg q m 0 (ordered g reg q) h in
          ap (λ (c : ℕ). rows_of g reg q (waits g reg q c (left_after (suc m) (ordered g reg q)))) e
          ∙ front_after_law S (get_or (in_order g reg q) m 0) (in_order_lt _ (at_place (in_order g reg q) m h)) (take (suc m) (in_order g reg q))
          (λ i v. given_are (suc m) i v ∙ ap (leb (K (Footprint i))) e) (left_after (suc m) (ordered g reg q))
          (subst (λ (c : ℕ). RestOf g reg q c (left_after (suc m) (ordered g reg q))) e (rest_after S (suc m) 0 (ordered g reg q) (all_left S)))
          ∙ sym (waiting_given g reg q (built_tables g reg tail) m (in_order g reg q) (unfold built_tables in refl) h)
