-- The tables as the build left them, any tail behind the entries: their runs are the built runs and show no damage. Assumes nothing.
use mathlib.Core.Path.{◌≡◌, ap, ◌∙◌}
use mathlib.Core.Bool.{Bool, true, false, not}
use mathlib.Core.List.{List, Memᴰ}
use Prim.Native.Nat.{ℕ, zero, suc, ◌+◌, ◌-◌, ◌*◌, ◌/◌, ◌%◌, ◌≤◌, ◌<◌, zero-le}
use native.Mathlib.Nat.{le_trans, zero-add, mul-le-mul, le-add_right, mul-suc}
use native.Mathlib.Numerals.{add-one}
use native.Mathlib.Omega.{arith}
use lib.ListN.{length, get_or, length-append}
use borrow.Author.Tests.{eqb-true, le-ltb, eq-eqb}
use Rattle.laws.specs.Lists.{filter, from, up_to, each}
use Rattle.laws.proofs.Tests.{snd_true}
use Rattle.laws.proofs.Lists.{each_append, filter_append, all_on}
use Rattle.laws.proofs.Ranges.{from_append, each_snoc, mem_from, length_from}
use Rattle.laws.proofs.Members.{mem_filter}
use Rattle.laws.proofs.Counting.{swap_count, length_each, at_most_one}
use Rattle.laws.proofs.Places.{part_is, place_is, length_places}
use Rattle.rules.specs.Sizes.{tile_count}
use Rattle.rules.specs.Distance.{shares, tile_rect}
use Rattle.rules.specs.Classes.{class_of}
use Rattle.rules.specs.Register.{count, footprints, rectangle, bad_entry}
use Rattle.rules.specs.Tables.{runs, run_start, run_end, run_at, bad_ends, bad_starts, bad_lengths, good_run, good_runs, stands, built_run, built_entries, built_starts, built_tables}
use Rattle.rules.specs.declared.Grid.{Grid}
use Rattle.rules.proofs.Good.{good_sizes, Accepted, few_footprints, may_be_named}

module _ (g : Grid) (reg : List ℕ) where
  -- run k of the built tables is what the build put there
  pub built_run_law : (tail : List ℕ) (k : ℕ) → k < runs g → run_at (built_tables g reg tail) k ≡ built_run g reg k
  unfolding run_at run_start run_end built_tables built_starts built_entries
  built_run_law tail k h = rw add-one (part_is (built_run g reg) tail 0 (runs g) k h) ∙ ap (built_run g reg) (zero-add k)

  pub start_is : (k : ℕ) → k ≤ runs g → get_or (built_starts g reg) k 0 ≡ length (each (built_run g reg) (up_to k))
  unfolding built_starts
  start_is k h = place_is (built_run g reg) 0 0 (runs g) k h ∙ zero-add (length (each (built_run g reg) (up_to k)))

  pub built_starts_length : length (built_starts g reg) ≡ runs g + 1
  unfolding built_starts
  built_starts_length = length_places (built_run g reg) 0 0 (runs g)

  -- a footprint of a run is one of the register
  pub in_register : (k i : ℕ) → Memᴰ i (built_run g reg k) → i < count reg
  unfolding built_run footprints
  in_register k i m = let r = mem_from 0 (count reg) (mem_filter (stands g reg k) (up_to (count reg)) m).0 in omega arith

  -- ---- how many entries there are

  -- a footprint stands in at most one run of a tile
  one_run_law : (i t k : ℕ) → 16 * t ≤ k → k < 16 * t + 16 → stands g reg k i ≡ true → k ≡ 16 * t + class_of g t (rectangle g reg i)
  unfolding stands
  one_run_law i t k h l e =
      let d : k / 16 ≡ t = omega arith in
      let c : class_of g (k / 16) (rectangle g reg i) ≡ k % 16 = eqb-true _ _ (snd_true (shares (tile_rect g (k / 16)) (rectangle g reg i)) _ e) in
      let c' : class_of g t (rectangle g reg i) ≡ k % 16 = rw d at c in
      omega arith

  pub runs_of : (i m : ℕ) → length (filter (λ k. stands g reg k i) (from 0 (16 * m))) ≤ m
  runs_of i zero = zero-le
  runs_of i (suc m) = rw (mul-suc 16 m) (more (runs_of i m) (at_most_one p (16 * m + class_of g m (rectangle g reg i)) (16 * m) 16 (λ k u v e. one_run_law i m k u v e)))
    where
      p : ℕ → Bool
      p k = stands g reg k i

      more : length (filter p (from 0 (16 * m))) ≤ m → length (filter p (from (16 * m) 16)) ≤ 1 → length (filter p (from 0 (16 * m + 16))) ≤ suc m
      more h k =
          rw (from_append 0 (16 * m) 16, zero-add (16 * m), filter_append p (from 0 (16 * m)) (from (16 * m) 16), length-append (filter p (from 0 (16 * m))) (filter p (from (16 * m) 16)))
          (omega arith)

  -- at most footprints × tiles
  pub most_entries_law : length (built_entries g reg) ≤ count reg * tile_count g
  unfolding built_entries built_run runs footprints
  most_entries_law =
      rw (swap_count (stands g reg) (up_to (count reg)) (up_to (16 * tile_count g)))
      (le_trans (length_each (λ i. filter (λ k. stands g reg k i) (up_to (16 * tile_count g))) (tile_count g) (up_to (count reg)) (λ i. runs_of i (tile_count g)))
      (rw (length_from 0 (count reg)) (omega arith)))

  -- a run lies within the built entries
  within_entries : (k : ℕ) → k < runs g → length (each (built_run g reg) (up_to k)) + length (built_run g reg k) ≤ length (built_entries g reg)
  unfolding built_entries
  within_entries k h =
      let d : runs g ≡ k + 1 + (runs g - (k + 1)) = omega arith in
      rw (
        d,
        from_append 0 (k + 1) (runs g - (k + 1)),
        each_append (built_run g reg) (up_to (k + 1)) (from (0 + (k + 1)) (runs g - (k + 1))),
        length-append (each (built_run g reg) (up_to (k + 1))) (each (built_run g reg) (from (0 + (k + 1)) (runs g - (k + 1)))),
        each_snoc (built_run g reg) k,
        length-append (each (built_run g reg) (up_to k)) (built_run g reg k),
      )
      (le-add_right _ _)

  -- ---- a register that a build accepts

  module _ (ok : Accepted g reg) where
    pub few_entries : length (built_entries g reg) ≤ 268435456
    few_entries =
        let s = good_sizes g ok.sizes in
        le_trans most_entries_law (unfold tile_count in mul-le-mul (few_footprints g reg ok) (mul-le-mul s.n_most s.n_most))

    pub good_lengths : (tail : List ℕ) → bad_lengths g (built_tables g reg tail) ≡ false
    unfolding bad_lengths built_tables bad_starts
    good_lengths tail = rw (ok.register, eq-eqb (length (built_starts g reg)) (runs g + 1) built_starts_length)

    ends_good : (tail : List ℕ) (k : ℕ) → k < runs g
        → bad_ends (length (built_tables g reg tail).entries) (run_start (built_tables g reg tail).starts k) (run_end (built_tables g reg tail).starts k) ≡ false
    unfolding bad_ends run_start run_end built_tables
    ends_good tail k h =
        let s : get_or (built_starts g reg) k 0 ≡ length (each (built_run g reg) (up_to k)) = start_is k (omega arith) in
        let e : get_or (built_starts g reg) (k + 1) 0 ≡ length (each (built_run g reg) (up_to k)) + length (built_run g reg k) =
        start_is (k + 1) (omega arith) ∙ ap length (each_snoc (built_run g reg) k) ∙ length-append (each (built_run g reg) (up_to k)) (built_run g reg k) in
        let l : length (each (built_run g reg) (up_to k)) + length (built_run g reg k) ≤ length (built_entries g reg) = within_entries k h in
        rw (
          e,
          s,
          le-ltb _ _ (le-add_right (length (each (built_run g reg) (up_to k))) (length (built_run g reg k))),
          length-append (built_entries g reg) tail,
          le-ltb _ _ (le_trans l (le-add_right (length (built_entries g reg)) (length tail))),
          le-ltb _ _ (le_trans l few_entries),
        )

    named : (tail : List ℕ) (i : ℕ) → i < count reg → not (bad_entry g (built_tables g reg tail).reg i) ≡ true
    unfolding built_tables
    named tail i v = rw (may_be_named g reg ok i v)

    -- no run shows damage
    pub no_damage : (tail : List ℕ) (k : ℕ) → k < runs g → good_run g (built_tables g reg tail) k ≡ true
    unfolding good_run
    no_damage tail k h =
        rw (ends_good tail k h, built_run_law tail k h) (all_on _ (built_run g reg k) (λ i m. named tail i (in_register k i m)))

    pub no_damage_in : (tail : List ℕ) (ks : List ℕ) → ((k : ℕ) → Memᴰ k ks → k < runs g) → good_runs g (built_tables g reg tail) ks ≡ true
    unfolding good_runs
    no_damage_in tail ks h = all_on (good_run g (built_tables g reg tail)) ks (λ k m. no_damage tail k (h k m))
