-- The footprints that a tile's allowed runs hold on built tables: those that the tile reports, each in one run. Assumes nothing.
use mathlib.Core.Path.{◌≡◌, refl, sym, ap, ◌∙◌}
use mathlib.Core.Bool.{true, ◌&&◌}
use mathlib.Core.List.{List, map, Memᴰ}
use Prim.Native.Nat.{ℕ, ◌+◌, ◌*◌, ◌/◌, ◌≤◌, ◌<◌, zero-le}
use native.Mathlib.Nat.{le-add_right}
use native.Mathlib.Omega.{arith}
use borrow.Author.Tests.{eqb-true, eq-eqb}
use Rattle.laws.specs.Lists.{from, up_to, each}
use Rattle.laws.proofs.Tests.{fst_true, snd_true, both_true}
use Rattle.laws.proofs.Members.{mem_filter, filter_mem, each_mem, mem_each}
use Rattle.laws.proofs.Ranges.{mem_from, from_mem}
use Rattle.laws.proofs.Apart.{Apart, self, apart_filter, apart_each, apart_map}
use Rattle.rules.specs.Classes.{class_of}
use Rattle.rules.specs.Register.{count, footprints, rectangle}
use Rattle.rules.specs.Tables.{run_no, tile_runs, stands, built_run}
use Rattle.rules.specs.Search.{allowed_run, allowed_runs, report_run}
use Rattle.rules.specs.declared.Grid.{Grid}
use Rattle.rules.specs.declared.Point.{Point}
use Rattle.rules.specs.declared.Item.{Item}
use Rattle.rules.specs.declared.Item.TheVariants.{Footprint}
use Rattle.rules.proofs.Classes.{class_below}
use Rattle.rules.proofs.Report.{given_by_one_run, report_run_tile}
use Rattle.demands.proofs.Around.{Around, key, tile_for, sizes, good, one_key, same_footprint}

module _ {g : Grid} {reg : List ℕ} {q : Point} (S : Around g reg q) where
  -- what stands in an allowed run of a tile is reported by that run, and by the tile
  pub in_allowed : (t k i : ℕ) → Memᴰ k (allowed_runs g q t) → Memᴰ i (built_run g reg k)
      → (i < count reg) × (k ≡ report_run g q (rectangle g reg i)) × (tile_for g reg q i ≡ t)
  unfolding allowed_runs tile_runs built_run footprints stands
  in_allowed t k i mk mi =
      let f : Memᴰ k (from (16 * t) 16) × (allowed_run g q k ≡ true) = mem_filter (allowed_run g q) (from (16 * t) 16) mk in
      let l : (16 * t ≤ k) × (k < 16 * t + 16) = mem_from (16 * t) 16 f.0 in
      let s : Memᴰ i (up_to (count reg)) × (stands g reg k i ≡ true) = mem_filter (stands g reg k) (up_to (count reg)) mi in
      let m : (0 ≤ i) × (i < 0 + count reg) = mem_from 0 (count reg) s.0 in
      let h : i < count reg = omega arith in
      let e : k ≡ report_run g q (rectangle g reg i) =
      eqb-true _ _ (sym (given_by_one_run g (sizes S).side_pos q (rectangle g reg i) (good S i h) k) ∙ both_true s.1 f.1) in
      let d : k / 16 ≡ t = omega arith in
      (h, e, sym (report_run_tile g (sizes S).side_pos q (rectangle g reg i) (good S i h)) ∙ ap (λ (x : ℕ). x / 16) (sym e) ∙ d)

  -- its reporting run is allowed, and it stands there
  stands_allowed : (i : ℕ) (h : i < count reg)
      → (stands g reg (report_run g q (rectangle g reg i)) i && allowed_run g q (report_run g q (rectangle g reg i))) ≡ true
  unfolding stands
  stands_allowed i h =
      given_by_one_run g (sizes S).side_pos q (rectangle g reg i) (good S i h) (report_run g q (rectangle g reg i))
      ∙ eq-eqb (report_run g q (rectangle g reg i)) _ refl

  run_allowed : (i : ℕ) → i < count reg → Memᴰ (report_run g q (rectangle g reg i)) (allowed_runs g q (tile_for g reg q i))
  unfolding allowed_runs tile_runs report_run run_no
  run_allowed i h =
      filter_mem (allowed_run g q) (from (16 * tile_for g reg q i) 16)
      (from_mem (16 * tile_for g reg q i) 16 (16 * tile_for g reg q i + class_of g (tile_for g reg q i) (rectangle g reg i)) (le-add_right _ _)
      (omega (arith, class_below g (tile_for g reg q i) (rectangle g reg i))))
      (snd_true (stands g reg (report_run g q (rectangle g reg i)) i) _ (stands_allowed i h))

  in_run_law : (i : ℕ) → i < count reg → Memᴰ i (built_run g reg (report_run g q (rectangle g reg i)))
  unfolding built_run footprints
  in_run_law i h =
      filter_mem (stands g reg (report_run g q (rectangle g reg i))) (up_to (count reg)) (from_mem 0 (count reg) i zero-le (omega arith))
      (fst_true (stands g reg (report_run g q (rectangle g reg i)) i) (allowed_run g q (report_run g q (rectangle g reg i))) (stands_allowed i h))

  -- the footprints of a tile's allowed runs
  pub of_tile : (t : ℕ) {z : Item} → Memᴰ z (map Footprint (each (built_run g reg) (allowed_runs g q t)))
      → (i : ℕ) × (i < count reg) × (tile_for g reg q i ≡ t) × (Footprint i ≡ z)
  of_tile t m =
      let o = mathlib.Core.List.Memᴰ.of_map Footprint (each (built_run g reg) (allowed_runs g q t)) m in
      let k : (x : ℕ) × Memᴰ x (allowed_runs g q t) × Memᴰ o.0 (built_run g reg x) =
      mem_each (built_run g reg) (allowed_runs g q t) o.1 in
      let r = in_allowed t k.0 o.0 k.1 k.2 in
      (o.0, r.0, r.2, o.2)

  pub reported_in : (i : ℕ) → i < count reg → Memᴰ (Footprint i) (map Footprint (each (built_run g reg) (allowed_runs g q (tile_for g reg q i))))
  reported_in i v = mathlib.Core.List.Memᴰ.map Footprint (each_mem (built_run g reg) (allowed_runs g q (tile_for g reg q i)) (run_allowed i v) (in_run_law i v))

  -- no two of them are one
  pub apart_numbers : (t : ℕ) → Apart self (each (built_run g reg) (allowed_runs g q t))
  apart_numbers t =
      apart_each (built_run g reg) (allowed_runs g q t) runs_apart run_apart
      (λ k m i a b c d. (in_allowed t k i a c).1 ∙ sym (in_allowed t m i b d).1)
    where
      runs_apart : Apart self (allowed_runs g q t)
      runs_apart = unfold allowed_runs tile_runs in apart_filter (allowed_run g q) (16 * t) 16

      run_apart : (k : ℕ) → Apart self (built_run g reg k)
      run_apart k = unfold built_run footprints in apart_filter (stands g reg k) 0 (count reg)

  pub number_lt : (t a : ℕ) → Memᴰ a (each (built_run g reg) (allowed_runs g q t)) → a < count reg
  number_lt t a m =
      let k : (x : ℕ) × Memᴰ x (allowed_runs g q t) × Memᴰ a (built_run g reg x) = mem_each (built_run g reg) (allowed_runs g q t) m in
      (in_allowed t k.0 a k.1 k.2).0

  pub apart_footprints : (t : ℕ) → Apart (key g reg q) (map Footprint (each (built_run g reg) (allowed_runs g q t)))
  apart_footprints t =
      apart_map (key g reg q) Footprint (each (built_run g reg) (allowed_runs g q t)) (apart_numbers t)
      (λ a b ma mb e. same_footprint a b (one_key S (Footprint a) (Footprint b) (number_lt t a ma) (number_lt t b mb) e))
