-- A tile of a judged side whose first start is the next tile's has no entries, and so no pairs: no start falls. Assumes nothing.
use mathlib.Core.Path.{◌≡◌, refl, ap, ◌∙◌}
use mathlib.Core.Bool.{true}
use mathlib.Core.List.{List, []}
use Prim.Native.Nat.{ℕ, zero, suc, ◌+◌, ◌-◌, ◌*◌, ◌≤◌, ◌<◌}
use native.Mathlib.Nat.{le_refl, le_trans}
use native.Mathlib.Omega.{arith}
use lib.ListN.{length, get_or}
use borrow.Author.Tests.{eqb-true}
use Rattle.laws.specs.Lists.{up_to, each}
use Rattle.laws.proofs.Lists.{each_empty}
use Rattle.laws.proofs.Parts.{part_none}
use Rattle.laws.proofs.Ranges.{each_from}
use Rattle.rules.specs.Sizes.{tile_count}
use Rattle.rules.specs.Tables.{Tables, runs, run_no, run_start, run_end, run_at}
use Rattle.rules.specs.Join.{Pair, class_pairs, tile_pairs}
use Rattle.rules.specs.declared.Grid.{Grid}
use Rattle.rules.proofs.Report.{run_below}
use Rattle.tables.proofs.Runs.{good_ends}
use Rattle.join.specs.Levels.{Sound, Judged, bare_tile, marked_pairs, around_pairs}
use Rattle.join.proofs.Sound.{run_stands, run_ends_good}
use Rattle.join.proofs.Levels.{tile_pairs_law, class_pairs_law, class_empty, no_entries}

-- ---- a side

module _ (g : Grid) (t : Tables) (s : Sound g t) where
  pub tile_stands : (tile : ℕ) → tile < tile_count g → 16 * tile + 16 < length t.starts
  unfolding run_no
  tile_stands tile h = omega (arith, run_stands g t s (run_no tile 15) (run_below g tile 15 h (omega arith)))

  rises : (k : ℕ) → k < runs g → get_or t.starts k 0 ≤ get_or t.starts (k + 1) 0
  unfolding run_start run_end
  rises k h = (good_ends _ _ _ (run_ends_good g t s k h)).0

  never_falls : (k m : ℕ) → k + m ≤ runs g → get_or t.starts k 0 ≤ get_or t.starts (k + m) 0
  never_falls k zero h = let e : k + 0 ≡ k = omega arith in rw e (le_refl (get_or t.starts k 0))
  never_falls k (suc m) h =
      let e : k + suc m ≡ k + m + 1 = omega arith in
      rw e (le_trans (never_falls k m (omega arith)) (rises (k + m) (omega arith)))

  bare_run : (tile class : ℕ) → tile < tile_count g → class < 16 → bare_tile t.starts tile ≡ true → length (run_at t (run_no tile class)) ≡ 0
  unfolding bare_tile run_no runs run_at run_start run_end
  bare_run tile class h k e =
      let begin = never_falls (16 * tile + 0) class (omega arith) in
      let end = never_falls (16 * tile + class + 1) (15 - class) (omega arith) in
      let same : get_or t.starts (16 * tile + 0) 0 ≡ get_or t.starts (16 * tile + 16) 0 = eqb-true _ _ e in
      let at-begin : 16 * tile + 0 + class ≡ 16 * tile + class = omega arith in
      let at_end : 16 * tile + class + 1 + (15 - class) ≡ 16 * tile + 16 = omega arith in
      let f : ℕ → ℕ = λ n. get_or t.starts n 0 in
      ap length (part_none t.entries (get_or t.starts (16 * tile + class) 0) (get_or t.starts (16 * tile + class + 1) 0)
      (omega (arith, begin, end, same, ap f at-begin, ap f at_end)))

-- ---- R's tile with S's tile

none : (f : ℕ → List Pair) → ((k : ℕ) → k < 16 → f k ≡ []) → each f (up_to 16) ≡ []
none f h = each_from f (λ k. []) 0 16 (λ k a b. h k b) ∙ each_empty (λ (k : ℕ). []) (up_to 16) (λ k. refl)

module _ (g : Grid) (tr ts : Tables) (j : Judged g tr ts) (r t u : ℕ) where
  bare_of_r : t < tile_count g → bare_tile tr.starts t ≡ true → tile_pairs g tr ts r t u ≡ []
  bare_of_r h e =
      tile_pairs_law g tr ts r t u
      ∙ none (class_pairs g tr ts r t u) (λ a k.
      class_empty g j.sizes tr ts r t u a (run_at tr (run_no t a)) refl (bare_run g tr j.of_r t a h k e))

  pub bare_of_s : u < tile_count g → bare_tile ts.starts u ≡ true → tile_pairs g tr ts r t u ≡ []
  bare_of_s h e =
      tile_pairs_law g tr ts r t u
      ∙ none (class_pairs g tr ts r t u) (λ a k.
      class_pairs_law g j.sizes tr ts r t u a (run_at tr (run_no t a)) refl
      ∙ none (marked_pairs g tr.reg ts r t u a (run_at tr (run_no t a))) (λ b l.
      no_entries g tr.reg ts r t u a (run_at tr (run_no t a)) b (run_no u b) (run_at ts (run_no u b)) refl refl
      (bare_run g ts j.of_s u b h l e)))

-- R's tile with all of S's tiles
pub bare_around : (g : Grid) (tr ts : Tables) (j : Judged g tr ts) (r t : ℕ) → t < tile_count g → bare_tile tr.starts t ≡ true → around_pairs g tr ts r t ≡ []
unfolding around_pairs
bare_around g tr ts j r t h e = each_empty (tile_pairs g tr ts r t) _ (λ u. bare_of_r g tr ts j r t u h e)
