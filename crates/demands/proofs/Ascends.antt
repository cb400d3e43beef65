-- The rows of all footprints in the order of a walk: they ascend by square, then number, and each footprint has one. Assumes nothing.
use mathlib.Core.Path.{◌≡◌, refl, sym, ap, ◌∙◌}
use mathlib.Core.Bool.{true}
use mathlib.Core.List.Memᴰ
use mathlib.Core.List.{List, [], ◌∷◌, map, Memᴰ}
use Prim.Native.Nat.{ℕ, ◌<◌}
use native.Mathlib.Nat.{le_trans, le_of_eq, lt_irrefl, zero-add}
use lib.ListN.{length, length-map}
use borrow.Author.Tests.{lt-ltb}
use Rattle.laws.specs.Lists.{up_to, times}
use Rattle.laws.proofs.Tests.{both_true}
use Rattle.laws.proofs.Ranges.{length_from}
use Rattle.laws.proofs.Apart.{has_none, Apart, self}
use Rattle.laws.proofs.Filters.{times_one}
use Rattle.laws.proofs.Ordered.{Above, above_mem, above_filter}
use Rattle.rules.specs.Register.{count, footprints}
use Rattle.rules.specs.Front.{earlier, encoded}
use Rattle.rules.specs.Walk.{waiting_row}
use Rattle.rules.specs.Waits.{nearest}
use Rattle.rules.specs.declared.Grid.{Grid}
use Rattle.rules.specs.declared.Point.{Point}
use Rattle.rules.specs.declared.Item.{Item}
use Rattle.rules.specs.declared.Item.TheVariants.{Footprint}
use Rattle.rules.specs.declared.Three.{Three}
use Rattle.rules.proofs.Keys.{key_less}
use Rattle.rules.proofs.Order.{length_insert_all}
use Rattle.demands.specs.Asking.{nearer, ascends}
use Rattle.demands.proofs.Around.{Around, key, small, key_pos}
use Rattle.demands.proofs.Everything.{ordered, all_left}
use Rattle.demands.proofs.Taking.{in_footprints}
use Rattle.demands.proofs.Nearest.{in_order, row_for, row_numbers_law, nearest_is, in_order_lt, only_footprints, is_footprint}

module _ {g : Grid} {reg : List ℕ} {q : Point} (S : Around g reg q) where
  abbrev K : Item → ℕ
  K z = key g reg q z

  -- of two footprints the one with the earlier place is nearer
  first_nearer : (i j : ℕ) → i < count reg → j < count reg → K (Footprint i) < K (Footprint j) → nearer (row_for g reg q i) (row_for g reg q j) ≡ true
  first_nearer i j u v h = same (key_less (row_for g reg q i) (row_for g reg q j) (small S (Footprint i) u) (small S (Footprint j) v) ∙ lt-ltb _ _ h)
    where
      same : earlier (row_for g reg q i) (row_for g reg q j) ≡ true → nearer (row_for g reg q i) (row_for g reg q j) ≡ true
      same e = unfold nearer waiting_row encoded in (unfold earlier in e)

  rows_ascend : (l : List ℕ) (c : ℕ) → Above K c (map Footprint l) → ((i : ℕ) → Memᴰ i l → i < count reg) → ascends (map (row_for g reg q) l) ≡ true
  unfolding ascends
  rows_ascend [] c a h = refl
  rows_ascend (i ∷ []) c a h = refl
  rows_ascend (i ∷ j ∷ l) c a h =
      both_true
      (first_nearer i j (h i (Memᴰ.head refl)) (h j (Memᴰ.tail (Memᴰ.head refl))) a.1.0)
      (rows_ascend (j ∷ l) (K (Footprint i)) a.1 (λ k m. h k (Memᴰ.tail m)))

  in_order_above : Above K 0 (map Footprint (in_order g reg q))
  in_order_above = rw (only_footprints (ordered g reg q)) at (above_filter K is_footprint 0 (ordered g reg q) (all_left S).up)

  pub nearest_ascends : ascends (nearest g reg q) ≡ true
  nearest_ascends = ap ascends (nearest_is S) ∙ rows_ascend (in_order g reg q) 0 in_order_above (λ i m. in_order_lt S i m)

  apart_in_order : (l : List ℕ) (c : ℕ) → Above K c (map Footprint l) → Apart self l
  apart_in_order [] c a = tt
  apart_in_order (x ∷ l) c a = (
    has_none self x l (λ y m e. lt_irrefl (K (Footprint x)) (le_trans (above_mem K (map Footprint l) a.1 (Memᴰ.map Footprint m)) (le_of_eq (ap (λ (n : ℕ). K (Footprint n)) (sym e))))),
    apart_in_order l (K (Footprint x)) a.1,
  )

  -- each footprint once
  pub nearest_once : (i : ℕ) → i < count reg → times i (map (λ (a : Three). a.number) (nearest g reg q)) ≡ 1
  nearest_once i v =
      ap (λ (l : List Three). times i (map (λ (a : Three). a.number) l)) (nearest_is S)
      ∙ ap (times i) (row_numbers_law g reg q (in_order g reg q))
      ∙ times_one i (in_order g reg q) (apart_in_order (in_order g reg q) 0 in_order_above)
      (in_footprints i (ordered g reg q) ((all_left S).complete (Footprint i) v (key_pos S (Footprint i) v)))

  -- and nothing else
  pub nearest_length : length (nearest g reg q) ≡ count reg
  unfolding nearest footprints
  nearest_length =
      length_insert_all (map (waiting_row g reg q) (map Footprint (up_to (count reg)))) []
      ∙ zero-add _
      ∙ length-map (map Footprint (up_to (count reg))) (waiting_row g reg q)
      ∙ length-map (up_to (count reg)) Footprint
      ∙ length_from 0 (count reg)
