-- What the check finds right is what the build leaves, and nothing else. Assumes nothing.
use mathlib.Core.Path.{◌≡◌, refl, ap, ◌∙◌}
use mathlib.Core.Bool.{true, ◌&&◌}
use mathlib.Core.List.{List}
use Prim.Native.Nat.{ℕ, ◌+◌, ◌/◌, ◌%◌, ◌≤◌, ◌<◌}
use native.Mathlib.Nat.{zero-add, div-lt_iff_lt-mul, mod-lt, le_refl}
use native.Mathlib.Omega.{arith}
use lib.Dec.{leb, eqb}
use lib.ListN.{length, get_or, take}
use borrow.Author.Tests.{leb-true, le-leb, eqb-true, eq-eqb}
use Rattle.laws.specs.Lists.{up_to, all, part, same}
use Rattle.laws.proofs.Tests.{iff, fst_true, snd_true, both_true}
use Rattle.laws.proofs.Lists.{all_on}
use Rattle.laws.proofs.Ranges.{mem_from}
use Rattle.laws.proofs.Same.{same_itself, same_true}
use Rattle.laws.proofs.Computed.{all_below}
use Rattle.laws.proofs.Rising.{Fits, rising_fits, filter_rises}
use Rattle.laws.proofs.Forced.{Found, starts_forced, entries_forced, run_there, start_begins, start_ends, start_rises, start_inside}
use Rattle.rules.specs.Sizes.{row_of, column_of, tile_count}
use Rattle.rules.specs.Distance.{tile_rect, shares}
use Rattle.rules.specs.Classes.{class_of}
use Rattle.rules.specs.Register.{count, footprints}
use Rattle.rules.specs.Tables.{runs, stands, built_run, built_entries, built_starts}
use Rattle.rules.specs.Build.{is_built}
use Rattle.rules.specs.declared.Grid.{Grid}
use Rattle.grid.specs.Tiles.{class_at}
use Rattle.index.specs.Check.{stands_at, is_run, run_right, is_right}

-- ---- a run's tile

pub stands_at_law : (g : Grid) (reg : List ℕ) (k i : ℕ) → stands_at g reg (k / 16 / g.n) (k / 16 % g.n) (k % 16) i ≡ stands g reg k i
unfolding stands_at stands shares tile_rect class_of class_at row_of column_of
stands_at_law g reg k i = refl

pub tile_on : (g : Grid) (k : ℕ) → 1 ≤ g.n → k < runs g → (k / 16 / g.n < g.n) × (k / 16 % g.n < g.n)
unfolding runs tile_count
tile_on g k pos h = ((div-lt_iff_lt-mul pos).1 (omega arith), mod-lt (k / 16) pos)

-- ---- all runs

module _ (g : Grid) (reg starts entries : List ℕ) where
  run_fits : (k : ℕ) (l : List ℕ) → is_run g reg k l ≡ true → Fits l (built_run g reg k)
  unfolding is_run built_run footprints
  run_fits k l e = rising_fits (stands g reg k) (count reg) 0 (count reg) (zero-add (count reg)) l e

  built_is_run : (k : ℕ) → is_run g reg k (built_run g reg k) ≡ true
  unfolding is_run built_run footprints
  built_is_run k = filter_rises (stands g reg k) (count reg) 0 (count reg) 0 (le_refl 0) (zero-add (count reg))

  module _ (right : is_right g reg starts entries ≡ true) where
    ends_right : (get_or starts 0 0 ≡ 0) × (get_or starts (runs g) 0 ≡ length (built_entries g reg)) × (all (run_right g reg starts entries) (up_to (runs g)) ≡ true)
    unfolding is_right
    ends_right =
        let u = fst_true (eqb (get_or starts 0 0) 0 && eqb (get_or starts (runs g) 0) (length (built_entries g reg))) _ right in (
          eqb-true _ _ (fst_true (eqb (get_or starts 0 0) 0) _ u),
          eqb-true _ _ (snd_true (eqb (get_or starts 0 0) 0) _ u),
          snd_true (eqb (get_or starts 0 0) 0 && eqb (get_or starts (runs g) 0) (length (built_entries g reg))) _ right,
        )

    run_right_law : (k : ℕ) → k < runs g → (get_or starts k 0 ≤ get_or starts (k + 1) 0) × (get_or starts (k + 1) 0 ≤ length entries)
        × Fits (part entries (get_or starts k 0) (get_or starts (k + 1) 0)) (built_run g reg k)
    unfolding run_right
    run_right_law k h =
        let r = all_below (run_right g reg starts entries) (runs g) ends_right.2 k h in
        let u = fst_true (leb (get_or starts k 0) (get_or starts (k + 1) 0) && leb (get_or starts (k + 1) 0) (length entries)) _ r in
        let v = snd_true (leb (get_or starts k 0) (get_or starts (k + 1) 0) && leb (get_or starts (k + 1) 0) (length entries)) _ r in (
          leb-true _ _ (fst_true (leb (get_or starts k 0) (get_or starts (k + 1) 0)) _ u),
          leb-true _ _ (snd_true (leb (get_or starts k 0) (get_or starts (k + 1) 0)) _ u),
          run_fits k _ v,
        )

    found : Found (built_run g reg) (runs g) starts entries
    unfolding built_entries
    found = record {
      begins = ends_right.0;
      ends = ends_right.1;
      rises = λ k h. (run_right_law k h).0;
      inside = λ k h. (run_right_law k h).1;
      fits = λ k h. (run_right_law k h).2;
    }

    right_built : length starts ≡ runs g + 1 → is_built g reg starts entries ≡ true
    unfolding is_built built_starts built_entries
    right_built l =
        let u : same starts (built_starts g reg) ≡ true =
        ap (λ (t : List ℕ). same t (built_starts g reg)) (starts_forced (built_run g reg) (runs g) starts entries found l) ∙ same_itself (built_starts g reg) in
        let v : same (take (length (built_entries g reg)) entries) (built_entries g reg) ≡ true =
        ap (λ (t : List ℕ). same t (built_entries g reg)) (entries_forced (built_run g reg) (runs g) starts entries found) ∙ same_itself (built_entries g reg) in
        both_true u v

  module _ (built : is_built g reg starts entries ≡ true) where
    starts_are : starts ≡ built_starts g reg
    unfolding is_built
    starts_are = same_true starts (built_starts g reg) (fst_true (same starts (built_starts g reg)) _ built)

    entries_are : take (length (built_entries g reg)) entries ≡ built_entries g reg
    unfolding is_built
    entries_are = same_true _ (built_entries g reg) (snd_true (same starts (built_starts g reg)) _ built)

    each_right : (k : ℕ) → k < runs g → run_right g reg starts entries k ≡ true
    unfolding run_right built_starts built_entries
    each_right k h =
        both_true
        (both_true
        (le-leb _ _ (start_rises (built_run g reg) (runs g) starts entries starts_are entries_are k h))
        (le-leb _ _ (start_inside (built_run g reg) (runs g) starts entries starts_are entries_are k h)))
        (ap (is_run g reg k) (run_there (built_run g reg) (runs g) starts entries starts_are entries_are k h) ∙ built_is_run k)

    built_right : is_right g reg starts entries ≡ true
    unfolding is_right built_starts built_entries
    built_right =
        both_true
        (both_true
        (eq-eqb _ _ (start_begins (built_run g reg) (runs g) starts entries starts_are entries_are))
        (eq-eqb _ _ (start_ends (built_run g reg) (runs g) starts entries starts_are entries_are)))
        (all_on (run_right g reg starts entries) (up_to (runs g)) (λ k m. let r = mem_from 0 (runs g) m in each_right k (omega arith)))

  -- the check says yes to what the build leaves and to nothing else
  pub right_is_built : length starts ≡ runs g + 1 → is_right g reg starts entries ≡ is_built g reg starts entries
  right_is_built l = iff (is_right g reg starts entries) (is_built g reg starts entries) (λ r. right_built r l) built_right
