-- The runs of a tile whose classes a mask allows: from a class on, all judged, all brought. Assumes nothing.
use Rattle.std.specs.Prelude.{Option}
use mathlib.Core.Path.{◌≡◌, refl, sym, ap, ap₂, ◌∙◌}
use mathlib.Core.Bool.{Bool, true, false, not, ◌&&◌, ◌||◌}
use mathlib.Core.List.{List, [], ◌∷◌, ◌++◌, map, map-append}
use Prim.Native.Nat.{ℕ, suc, ◌+◌, ◌-◌, ◌*◌, ◌/◌, ◌%◌, ◌≤◌, ◌<◌}
use native.Mathlib.Omega.{arith}
use lib.Dec.{leb}
use lib.ListN.{length, length-append}
use borrow.Author.Tests.{lt-leb}
use Rattle.laws.specs.Lists.{keep, filter, from, each}
use Rattle.laws.proofs.Tests.{fst_true, snd_true}
use Rattle.laws.proofs.Lists.{each_append}
use Rattle.laws.proofs.Ranges.{filter_from}
use Rattle.rules.specs.Sizes.{most_entries, tile_count}
use Rattle.rules.specs.Tables.{Tables, tile_runs, run_at, good_runs}
use Rattle.rules.specs.Classes.{allowed_in}
use Rattle.rules.specs.Search.{allowed_run, allowed_runs}
use Rattle.rules.specs.Walk.{waiting_row, tile_brings}
use Rattle.rules.specs.declared.Grid.{Grid}
use Rattle.rules.specs.declared.Point.{Point}
use Rattle.rules.specs.declared.Item.TheVariants.{Footprint}
use Rattle.grid.specs.Places.{is_on}
use Rattle.rules.proofs.Good.{good_runs_append}
use Rattle.walk.specs.Fill.{Got, add_all, brought}
use Rattle.walk.specs.Reading.{entry_rows, run_rows, Allows, Counted, Judged}

-- ---- the runs of a tile

module _ (tile mask : ℕ) where
  -- run k is of a class that the mask allows
  abbrev on_run : ℕ → Bool
  on_run k = is_on mask (k % 16)

  -- from a class on
  abbrev pub runs_from : ℕ → List ℕ
  runs_from class = filter on_run (from (16 * tile + class) (16 - class))

  -- the run of one class
  abbrev pub run_of : ℕ → List ℕ
  run_of class = keep (is_on mask class) (16 * tile + class) []

  pub runs_next : (class : ℕ) → class < 16 → runs_from class ≡ run_of class ++ runs_from (class + 1)
  runs_next class h =
      let s : 16 - class ≡ suc (16 - (class + 1)) = omega arith in
      let m : (16 * tile + class) % 16 ≡ class = omega arith in
      let n : suc (16 * tile + class) ≡ 16 * tile + (class + 1) = omega arith in
      ap (λ (k : ℕ). filter on_run (from (16 * tile + class) k)) s
      ∙ ap₂ (λ (x k : ℕ). keep (is_on mask x) (16 * tile + class) (filter on_run (from k (16 - (class + 1))))) m n
      ∙ go (is_on mask class) (runs_from (class + 1))
    where
      go : (b : Bool) (l : List ℕ) → keep b (16 * tile + class) l ≡ keep b (16 * tile + class) [] ++ l
      go true l = refl
      go false l = refl

  pub runs_none : (class : ℕ) → 16 ≤ class → runs_from class ≡ []
  runs_none class h = let e : 16 - class ≡ 0 = omega arith in rw e refl

  pub runs_all : (g : Grid) (q : Point) → Allows g q tile mask → runs_from 0 ≡ allowed_runs g q tile
  unfolding allowed_runs tile_runs allowed_run
  runs_all g q al =
      let e : 16 * tile + 0 ≡ 16 * tile = omega arith in
      ap (λ (k : ℕ). filter on_run (from k 16)) e
      ∙ filter_from on_run (allowed_run g q) (16 * tile) 16
      (λ k h m. let d : tile ≡ k / 16 = omega arith in al (k % 16) (omega arith) ∙ ap (λ (x : ℕ). allowed_in g q x (k % 16)) d)

  pub class_on : (class k : ℕ) → is_on mask class ≡ true → k ≡ 16 * tile + class → k ∷ [] ≡ run_of class
  class_on class k e f = rw (e, f) refl

  pub class_off : (class : ℕ) → is_on mask class ≡ false → [] ≡ run_of class
  class_off class e = rw e refl

module _ (g : Grid) (t : Tables) where
  rows_append : (q : Point) (ks ms : List ℕ) → run_rows g t q (ks ++ ms) ≡ run_rows g t q ks ++ run_rows g t q ms
  rows_append q ks ms =
      ap (entry_rows g t.reg q) (each_append (run_at t) ks ms)
      ∙ ap (map (waiting_row g t.reg q)) (map-append Footprint (each (run_at t) ks) (each (run_at t) ms))
      ∙ map-append (waiting_row g t.reg q) (map Footprint (each (run_at t) ks)) (map Footprint (each (run_at t) ms))

  pub judged_as_law : (ks ms : List ℕ) (many : ℕ) (r : Option ℕ) → Judged g t ks many r → ks ≡ ms → Judged g t ms many r
  judged_as_law ks ms many r j e = rw e at j

  -- a class that is not allowed
  pub counted_none : Counted g t [] 1 0
  unfolding good_runs
  counted_none = record { good = refl; counts = refl; few = omega arith }

  module _ (tile mask : ℕ) where
    abbrev left : ℕ → List ℕ
    left class = runs_from tile mask class

    abbrev one : ℕ → List ℕ
    one class = run_of tile mask class

    abbrev entries_of : List ℕ → ℕ
    entries_of ks = length (each (run_at t) ks)

    -- ---- all judged

    -- the runs from a class on are left, and what came before is counted
    pub record Counting (count class : ℕ) : Type 0 where
      pub most : class ≤ 16
      pub still : good_runs g t (left class) ≡ good_runs g t (left 0)
      pub counts : count + entries_of (left class) ≡ entries_of (left 0)
      pub few : count ≤ class * most_entries

    module _ (count class : ℕ) (h : class < 16) (p : Counting count class) where
      good_next : good_runs g t (left 0) ≡ (good_runs g t (one class) && good_runs g t (left (class + 1)))
      good_next = sym p.still ∙ ap (good_runs g t) (runs_next tile mask class h) ∙ good_runs_append g t (one class) (left (class + 1))

      pub count_bad : good_runs g t (one class) ≡ false → good_runs g t (left 0) ≡ false
      count_bad e = good_next ∙ ap (λ (b : Bool). b && good_runs g t (left (class + 1))) e

      pub count_on : (n : ℕ) → Counted g t (one class) 1 n → Counting (count + n) (class + 1)
      count_on n j =
          let f = j.counts in
          let a : entries_of (left class) ≡ entries_of (one class) + entries_of (left (class + 1)) =
          ap entries_of (runs_next tile mask class h) ∙ ap length (each_append (run_at t) (one class) (left (class + 1)))
          ∙ length-append (each (run_at t) (one class)) (each (run_at t) (left (class + 1))) in
          record {
            most = omega arith;
            still = sym (good_next ∙ ap (λ (x : Bool). x && good_runs g t (left (class + 1))) j.good);
            counts = omega (arith, p.counts);
            few = omega (arith, p.few, j.few);
          }

    pub count_end : (count class : ℕ) → Counting count class → 16 ≤ class → Counted g t (left 0) 16 count
    unfolding good_runs
    count_end count class p h = record {
      good = sym p.still ∙ ap (good_runs g t) (runs_none tile mask class h);
      counts = omega (arith, p.counts, ap entries_of (runs_none tile mask class h));
      few = omega (arith, p.few, p.most);
    }

    -- ---- all brought

    -- this run, and those behind it, show no damage
    pub both_good : (class : ℕ) → class < 16 → good_runs g t (left class) ≡ true → (good_runs g t (one class) ≡ true) × (good_runs g t (left (class + 1)) ≡ true)
    both_good class h e =
        let f = sym (ap (good_runs g t) (runs_next tile mask class h) ∙ good_runs_append g t (one class) (left (class + 1))) ∙ e in
        (fst_true (good_runs g t (one class)) (good_runs g t (left (class + 1))) f, snd_true (good_runs g t (one class)) (good_runs g t (left (class + 1))) f)

    pub class_rows : (q : Point) (class : ℕ) → class < 16 → run_rows g t q (left class) ≡ run_rows g t q (one class) ++ run_rows g t q (left (class + 1))
    class_rows q class h = ap (run_rows g t q) (runs_next tile mask class h) ∙ rows_append q (one class) (left (class + 1))

    pub rows_none : (q : Point) (class : ℕ) → 16 ≤ class → run_rows g t q (left class) ≡ []
    rows_none q class h = ap (run_rows g t q) (runs_none tile mask class h)

  -- ---- a tile opened

  module _ (q : Point) (tile : ℕ) (got : Got) where
    pub tile_fine : tile < tile_count g → good_runs g t (allowed_runs g q tile) ≡ true
        → add_all got (run_rows g t q (allowed_runs g q tile))
        ≡ brought got (leb (tile_count g) tile || not (good_runs g t (allowed_runs g q tile))) (map (waiting_row g t.reg q) (tile_brings g t q tile))
    unfolding tile_brings
    tile_fine h e = rw (lt-leb (tile_count g) tile h, e) refl
