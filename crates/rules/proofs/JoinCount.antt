-- How many pairs a join can have: runs that show no damage do not overlap, so their entries are at most 268,435,456, and the pairs at most
-- the product of both sides' entries. For tables of any origin. Assumes nothing.
use mathlib.Core.Path.{◌≡◌, refl, sym, ap, ap₂, ◌∙◌}
use mathlib.Core.Bool.{true, not, ◌||◌}
use mathlib.Core.List.{List, [], ◌∷◌}
use Prim.Native.Nat.{ℕ, zero, suc, ◌+◌, ◌-◌, ◌*◌, ◌≤◌, ◌<◌, zero-le}
use native.Mathlib.Nat.{le_trans, le_of_eq, mul-le-mul, mul_comm, min-le_left}
use native.Mathlib.Numerals.{add-one}
use native.Mathlib.Omega.{arith}
use lib.Dec.{ltb}
use lib.ListN.{length, drop, length-append, length-take, length-map}
use borrow.Author.Tests.{ltb-false}
use Rattle.laws.specs.Lists.{up_to, each, total}
use Rattle.laws.proofs.Tests.{fst_true, not_not, neither}
use Rattle.laws.proofs.Lists.{each_same}
use Rattle.laws.proofs.Ranges.{each_snoc, from_mem}
use Rattle.laws.proofs.Counting.{length_each}
use Rattle.laws.proofs.Rows.{each_rows}
use Rattle.laws.proofs.Lengths.{length_filter, length_total, length_product}
use Rattle.rules.specs.Sizes.{most_entries, tile_count, tiles}
use Rattle.rules.specs.Classes.{classes, marked_in}
use Rattle.rules.specs.Tables.{Tables, run_no, runs, run_start, run_end, run_at, bad_ends, good_run, good_runs}
use Rattle.rules.specs.Join.{Pair, lists, neighbours, run_pairs, class_pairs, tile_pairs, join_pairs, pair_writes}
use Rattle.rules.specs.declared.Grid.{Grid}
use Rattle.rules.proofs.Report.{run_again}
use Rattle.laws.specs.Pairs.{pairs}
use Rattle.laws.proofs.Computed.{all_mem}

-- ---- the entries of runs without damage

-- a run without damage ends no earlier than it begins, and not past 268,435,456
pub good_ends : (g : Grid) (t : Tables) (k : ℕ) → good_run g t k ≡ true → (run_start t.starts k ≤ run_end t.starts k) × (run_end t.starts k ≤ 268435456)
unfolding good_run bad_ends
good_ends g t k e =
    let a = run_start t.starts k in
    let z = run_end t.starts k in
    let n = not_not (ltb z a || ltb (length t.entries) z || ltb most_entries z) (fst_true (not (ltb z a || ltb (length t.entries) z || ltb most_entries z)) _ e) in
    let h = neither (ltb z a || ltb (length t.entries) z) (ltb most_entries z) n in
    (ltb-false _ _ (neither (ltb z a) (ltb (length t.entries) z) h.0).0, ltb-false _ _ h.1)

-- a run is no longer than its ends are apart
pub run_length : (t : Tables) (k : ℕ) → length (run_at t k) ≤ run_end t.starts k - run_start t.starts k
unfolding run_at
run_length t k =
    let a = run_start t.starts k in
    let z = run_end t.starts k in
    le_trans (le_of_eq (length-take (z - a) (drop a t.entries))) (min-le_left (z - a) (length (drop a t.entries)))

next_start : (starts : List ℕ) (k : ℕ) → run_start starts (suc k) ≡ run_end starts k
unfolding run_start run_end
next_start starts k = rw add-one

module _ (g : Grid) (t : Tables) where
  -- the entries of the first runs end where the next begins
  entries_end : (m : ℕ) → ((k : ℕ) → k < m → good_run g t k ≡ true) → length (each (run_at t) (up_to m)) ≤ run_start t.starts m
  entries_end zero h = zero-le
  entries_end (suc m) h =
      let l : length (each (run_at t) (up_to (suc m))) ≡ length (each (run_at t) (up_to m)) + length (run_at t m) =
      ap (λ (n : ℕ). length (each (run_at t) (up_to n))) (sym (add-one m))
      ∙ ap length (each_snoc (run_at t) m) ∙ length-append (each (run_at t) (up_to m)) (run_at t m) in
      let below = entries_end m (λ k u. h k (omega arith)) in
      let ends = good_ends g t m (h m (omega arith)) in
      let long = run_length t m in
      let next = next_start t.starts m in
      omega arith

  few_before : (m : ℕ) → ((k : ℕ) → k < m → good_run g t k ≡ true) → length (each (run_at t) (up_to m)) ≤ 268435456
  few_before zero h = zero-le
  few_before (suc m) h =
      le_trans (entries_end (suc m) h) (le_trans (le_of_eq (next_start t.starts m)) (good_ends g t m (h m (omega arith))).1)

  -- all entries that a join reads of one side
  pub few_run_entries : good_runs g t (up_to (runs g)) ≡ true → length (each (run_at t) (up_to (runs g))) ≤ 268435456
  unfolding good_runs
  few_run_entries e = few_before (runs g) (λ k h. all_mem (good_run g t) (up_to (runs g)) e (from_mem 0 (runs g) k zero-le (omega arith)))

  -- a tile's entries, by its classes
  abbrev tile_entries : ℕ → List ℕ
  tile_entries u = each (λ a. run_at t (run_no u a)) classes

  -- all entries, tile by tile
  tile_by_tile : total (λ u. length (tile_entries u)) (tiles g) ≡ length (each (run_at t) (up_to (runs g)))
  unfolding tiles classes runs
  tile_by_tile =
      sym (length_total tile_entries (tiles g))
      ∙ ap length (each_rows (λ u a. run_at t (run_no u a)) (tile_count g) 16
      ∙ each_same _ _ (up_to (tile_count g * 16)) (λ k. ap (run_at t) (run_again k))
      ∙ ap (λ (n : ℕ). each (run_at t) (up_to n)) (mul_comm (tile_count g) 16))

-- ---- the pairs

-- two numbers a pair
pub two_a_pair : (l : List Pair) → length (each pair_writes l) ≡ 2 * length l
unfolding pair_writes
two_a_pair [] = refl
two_a_pair (p ∷ l) = let e = two_a_pair l in omega arith

module _ (g : Grid) (tr ts : Tables) (r : ℕ) where
  run_few : (k m : ℕ) → length (run_pairs g tr ts r k m) ≤ length (run_at tr k) * length (run_at ts m)
  unfolding run_pairs
  run_few k m =
      le_trans (length_filter (lists g tr.reg ts.reg r k m) (pairs (run_at tr k) (run_at ts m)))
      (length_each _ (length (run_at ts m)) (run_at tr k) (λ i. le_of_eq (length-map (run_at ts m) (λ (j : ℕ). (i, j)))))

  tile_few : (t u : ℕ) → length (tile_pairs g tr ts r t u) ≤ length (tile_entries g tr t) * length (tile_entries g ts u)
  unfolding tile_pairs class_pairs
  tile_few t u =
      le_trans
      (length_product (marked_in g t u) (λ a b. run_pairs g tr ts r (run_no t a) (run_no u b)) (λ a. length (run_at tr (run_no t a))) (λ b. length (run_at ts (run_no u b))) classes classes
      (λ a b. run_few (run_no t a) (run_no u b)))
      (le_of_eq (ap₂ ◌*◌ (sym (length_total (λ a. run_at tr (run_no t a)) classes)) (sym (length_total (λ b. run_at ts (run_no u b)) classes))))

  -- a join's pairs: at most the product of the entries that it reads
  join_few : length (join_pairs g tr ts r) ≤ length (each (run_at tr) (up_to (runs g))) * length (each (run_at ts) (up_to (runs g)))
  unfolding join_pairs
  join_few =
      le_trans
      (length_product (neighbours g) (tile_pairs g tr ts r) (λ t. length (tile_entries g tr t)) (λ u. length (tile_entries g ts u)) (tiles g) (tiles g) tile_few)
      (le_of_eq (ap₂ ◌*◌ (tile_by_tile g tr) (tile_by_tile g ts)))

  -- 2^56
  pub few_pairs : good_runs g tr (up_to (runs g)) ≡ true → good_runs g ts (up_to (runs g)) ≡ true → length (join_pairs g tr ts r) ≤ 72057594037927936
  few_pairs e f = le_trans join_few (mul-le-mul (few_run_entries g tr e) (few_run_entries g ts f))
