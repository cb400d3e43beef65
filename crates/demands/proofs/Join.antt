-- Demand 2 for the join: on built tables, any tails behind their entries, no join meets damage, its pairs are the declared list, and each
-- pair within r stands there once and no other. Assumes nothing.
use mathlib.Core.Path.{◌≡◌, refl, sym, ap, ap₂, ◌∙◌}
use mathlib.Core.Bool.{Bool, true, false, ◌&&◌, and_assoc, cond}
use mathlib.Core.List.{List, [], ◌∷◌, Memᴰ}
use Prim.Native.Nat.{ℕ, ◌+◌, ◌*◌, ◌/◌, ◌%◌, ◌≤◌, ◌<◌}
use native.Mathlib.Omega.{arith}
use lib.Dec.{ltb, eqb}
use lib.ListN.{length}
use borrow.Author.Tests.{ltb-true, le-ltb, eqb-true, eq-eqb}
use Rattle.laws.specs.Lists.{filter, up_to, each, only}
use Rattle.laws.specs.Pairs.{pairs, same_pair, pair_times}
use Rattle.laws.proofs.Tests.{by_bool, iff, fst_true, snd_true, both_true, cross}
use Rattle.laws.proofs.Lists.{filter_each, each_filter, each_same, only_each, only_filter, filter_filter, filter_same}
use Rattle.laws.proofs.Ranges.{mem_from, each_from}
use Rattle.laws.proofs.Pairs.{mem_pairs, pairs_of_filters, test_out, pair_once, one_in_four}
use Rattle.laws.proofs.Lists.{each_empty}
use Rattle.rules.specs.Sizes.{tile_count, tiles}
use Rattle.rules.specs.Distance.{within}
use Rattle.rules.specs.Classes.{classes, marked_in}
use Rattle.rules.specs.Register.{count, footprints, rectangle}
use Rattle.rules.specs.Tables.{Tables, run_no, runs, stands, built_run, built_tables}
use Rattle.rules.specs.Refusals.{pass, fit}
use Rattle.rules.specs.Join.{Pair, neighbours, lists, run_pairs, class_pairs, tile_pairs, join_pairs, pair_writes, join_verdict, joins, corner, pair_runs, paired_in, declared_pairs}
use Rattle.rules.specs.declared.Grid.{Grid}
use Rattle.rules.proofs.Good.{good_sizes, Accepted, good_footprint}
use Rattle.rules.proofs.Report.{run_tile, run_class, run_below, report_run_below}
use Rattle.rules.proofs.Built.{built_run_law, good_lengths, no_damage_in}
use Rattle.rules.proofs.JoinTiles.{listed_in_one_pair}

-- a run is known by its tile and its class
run_known : (t a k : ℕ) → a < 16 → eqb (run_no t a) k ≡ (eqb t (k / 16) && eqb a (k % 16))
unfolding run_no
run_known t a k h =
    iff _ _
    (λ e. let f : 16 * t + a ≡ k = eqb-true _ _ e in both_true (eq-eqb t (k / 16) (omega arith)) (eq-eqb a (k % 16) (omega arith)))
    (λ e.
    let f : t ≡ k / 16 = eqb-true _ _ (fst_true (eqb t (k / 16)) _ e) in
    let l : a ≡ k % 16 = eqb-true _ _ (snd_true (eqb t (k / 16)) _ e) in
    eq-eqb (16 * t + a) k (omega arith))

-- the same at every class
each_class : (f h : ℕ → List Pair) → ((k : ℕ) → k < 16 → f k ≡ h k) → each f classes ≡ each h classes
unfolding classes
each_class f h e = each_from f h 0 16 (λ k _ l. e k (omega arith))

-- the same at every tile
each_tile : (g : Grid) (f h : ℕ → List Pair) → ((k : ℕ) → k < tile_count g → f k ≡ h k) → each f (tiles g) ≡ each h (tiles g)
unfolding tiles
each_tile g f h e = each_from f h 0 (tile_count g) (λ k _ l. e k (omega arith))

module _ (g : Grid) (reg_r tail_r reg_s tail_s : List ℕ) (ok_r : Accepted g reg_r) (ok_s : Accepted g reg_s) (r : ℕ) (small : r ≤ g.side) where
  -- the tables of both sides as the build left them
  abbrev tr : Tables
  tr = built_tables g reg_r tail_r

  abbrev ts : Tables
  ts = built_tables g reg_s tail_s

  -- no join on them is refused before room is judged
  pub join_passes : join_verdict g tr ts r ≡ pass
  unfolding join_verdict
  join_passes =
      rw (
        ok_r.sizes,
        good_lengths g reg_r ok_r tail_r,
        good_lengths g reg_s ok_s tail_s,
        le-ltb g.side r small,
        no_damage_in g reg_r ok_r tail_r (up_to (runs g)) (λ k m. inside k (mem_from 0 (runs g) m)),
        no_damage_in g reg_s ok_s tail_s (up_to (runs g)) (λ k m. inside k (mem_from 0 (runs g) m)),
      )
    where
      inside : (k : ℕ) → (0 ≤ k) × (k < 0 + runs g) → k < runs g
      inside k h = omega arith

  -- ---- the pairs by the steps are those declared

  module _ (t u a b : ℕ) (ht : t < tile_count g) (hu : u < tile_count g) (ha : a < 16) (hb : b < 16) where
    -- a pair of footprints is met in these runs, which are visited and joined, and is within r: exactly where it is declared
    listed_here : (p : Pair) → p.0 < count reg_r → p.1 < count reg_s
        → (neighbours g t u && (marked_in g t u a b && ((stands g reg_r (run_no t a) p.0 && stands g reg_s (run_no u b) p.1)
        && lists g reg_r reg_s r (run_no t a) (run_no u b) p)))
        ≡ paired_in g reg_r reg_s r (run_no t a) (run_no u b) p
    unfolding stands lists paired_in pair_runs
    listed_here p hi hj =
        let e = listed_in_one_pair g (good_sizes g ok_r.sizes).side_pos (rectangle g reg_r p.0) (rectangle g reg_s p.1)
        (good_footprint g reg_r ok_r p.0 hi) (good_footprint g reg_s ok_s p.1 hj) r small (run_no t a) (run_no u b) in
        rw (run_tile t a ha, run_class t a ha, run_tile u b hb, run_class u b hb)
        (rw (run_tile t a ha, run_class t a ha, run_tile u b hb, run_class u b hb) at e)

    -- so the pairs of these runs are those declared there
    runs_join : only (neighbours g t u) (only (marked_in g t u a b) (run_pairs g tr ts r (run_no t a) (run_no u b)))
        ≡ filter (paired_in g reg_r reg_s r (run_no t a) (run_no u b)) (pairs (footprints reg_r) (footprints reg_s))
    unfolding run_pairs built_run built_tables footprints
    runs_join =
        ap₂ (λ (l m : List ℕ). only (neighbours g t u) (only (marked_in g t u a b) (filter (lists g reg_r reg_s r (run_no t a) (run_no u b)) (pairs l m))))
        (built_run_law g reg_r tail_r (run_no t a) (run_below g t a ht ha)) (built_run_law g reg_s tail_s (run_no u b) (run_below g u b hu hb))
        ∙ ap (λ (l : List Pair). only (neighbours g t u) (only (marked_in g t u a b) (filter (lists g reg_r reg_s r (run_no t a) (run_no u b)) l)))
        (pairs_of_filters (stands g reg_r (run_no t a)) (stands g reg_s (run_no u b)) (footprints reg_r) (footprints reg_s))
        ∙ ap (λ (l : List Pair). only (neighbours g t u) (only (marked_in g t u a b) l)) (filter_filter (lists g reg_r reg_s r (run_no t a) (run_no u b)) _ (pairs (footprints reg_r) (footprints reg_s)))
        ∙ ap (only (neighbours g t u)) (only_filter (marked_in g t u a b) _ (pairs (footprints reg_r) (footprints reg_s)))
        ∙ only_filter (neighbours g t u) _ (pairs (footprints reg_r) (footprints reg_s))
        ∙ filter_same _ _ (pairs (footprints reg_r) (footprints reg_s)) (λ p m. at p (mem_pairs (footprints reg_r) (footprints reg_s) m))
      where
        at : (p : Pair) → Memᴰ p.0 (footprints reg_r) × Memᴰ p.1 (footprints reg_s)
            → (neighbours g t u && (marked_in g t u a b && ((stands g reg_r (run_no t a) p.0 && stands g reg_s (run_no u b) p.1)
            && lists g reg_r reg_s r (run_no t a) (run_no u b) p)))
            ≡ paired_in g reg_r reg_s r (run_no t a) (run_no u b) p
        at p m =
            let hi = mem_from 0 (count reg_r) m.0 in
            let hj = mem_from 0 (count reg_s) m.1 in
            listed_here p (omega arith) (omega arith)

  tiles_join : (t u : ℕ) → t < tile_count g → u < tile_count g
      → only (neighbours g t u) (tile_pairs g tr ts r t u)
      ≡ each (λ a. each (λ b. filter (paired_in g reg_r reg_s r (run_no t a) (run_no u b)) (pairs (footprints reg_r) (footprints reg_s))) classes) classes
  unfolding tile_pairs class_pairs
  tiles_join t u ht hu =
      only_each (neighbours g t u) (class_pairs g tr ts r t u) classes
      ∙ each_class _ _ (λ a ha.
      ap (only (neighbours g t u)) (each_filter (marked_in g t u a) (λ b. run_pairs g tr ts r (run_no t a) (run_no u b)) classes)
      ∙ only_each (neighbours g t u) (λ b. only (marked_in g t u a b) (run_pairs g tr ts r (run_no t a) (run_no u b))) classes
      ∙ each_class _ _ (λ b hb. runs_join t u a b ht hu ha hb))

  -- the pairs by the steps are the declared list
  pub join_is_declared : join_pairs g tr ts r ≡ declared_pairs g reg_r reg_s r
  unfolding join_pairs declared_pairs
  join_is_declared =
      each_tile g _ _ (λ t ht. each_filter (neighbours g t) (tile_pairs g tr ts r t) (tiles g) ∙ each_tile g _ _ (λ u hu. tiles_join t u ht hu))

  -- ---- each pair within r once, and no other

  module _ (i j : ℕ) where
    -- the pair, where both are footprints
    abbrev once : List Pair
    once = filter (same_pair (i, j)) (pairs (footprints reg_r) (footprints reg_s))

    -- the two are within r
    abbrev near : Bool
    near = within r (rectangle g reg_r i) (rectangle g reg_s j)

    -- its pair of runs
    abbrev run_r : ℕ
    run_r = (pair_runs g (rectangle g reg_r i) (rectangle g reg_s j)).0

    abbrev run_s : ℕ
    run_s = (pair_runs g (rectangle g reg_r i) (rectangle g reg_s j)).1

    -- tiles and classes are those of its runs, and it is within r
    abbrev here : ℕ → ℕ → ℕ → ℕ → Bool
    here t u a b = eqb t (run_r / 16) && eqb u (run_s / 16) && eqb a (run_r % 16) && eqb b (run_s % 16) && near

    its_runs : (t u a b : ℕ) → a < 16 → b < 16 → paired_in g reg_r reg_s r (run_no t a) (run_no u b) (i, j) ≡ here t u a b
    unfolding paired_in
    its_runs t u a b ha hb =
        rw (run_known t a run_r ha, run_known u b run_s hb) (regroup (eqb t (run_r / 16)) (eqb a (run_r % 16)) (eqb u (run_s / 16)) (eqb b (run_s % 16)) near)
      where
        regroup : (a b c d e : Bool) → ((a && b) && (c && d) && e) ≡ (a && c && b && d && e)
        regroup a b c d e = ap (λ (x : Bool). x && e) (cross a b c d ∙ sym (and_assoc (a && c) b d))

    -- looked for among the declared pairs, it is found at its one pair of runs
    at_its_runs : filter (same_pair (i, j)) (declared_pairs g reg_r reg_s r)
        ≡ each (λ t. each (λ u. each (λ a. each (λ b. only (here t u a b) once) classes) classes) (tiles g)) (tiles g)
    unfolding declared_pairs
    at_its_runs =
        filter_each (same_pair (i, j)) _ (tiles g)
        ∙ each_same _ _ (tiles g) (λ t. filter_each (same_pair (i, j)) _ (tiles g)
        ∙ each_same _ _ (tiles g) (λ u. filter_each (same_pair (i, j)) _ classes
        ∙ each_class _ _ (λ a ha. filter_each (same_pair (i, j)) _ classes
        ∙ each_class _ _ (λ b hb.
        filter_filter (same_pair (i, j)) (paired_in g reg_r reg_s r (run_no t a) (run_no u b)) (pairs (footprints reg_r) (footprints reg_s))
        ∙ test_out (paired_in g reg_r reg_s r (run_no t a) (run_no u b)) (i, j) (pairs (footprints reg_r) (footprints reg_s))
        ∙ ap (λ (x : Bool). only x once) (its_runs t u a b ha hb)))))

    -- these runs are on the grid
    runs_below : i < count reg_r → j < count reg_s → (run_r < runs g) × (run_s < runs g)
    unfolding pair_runs
    runs_below hi hj =
        let pos = (good_sizes g ok_r.sizes).side_pos in (
          report_run_below g pos (corner (rectangle g reg_s j)) (rectangle g reg_r i) (good_footprint g reg_r ok_r i hi),
          report_run_below g pos (corner (rectangle g reg_r i)) (rectangle g reg_s j) (good_footprint g reg_s ok_s j hj),
        )

    found : filter (same_pair (i, j)) (declared_pairs g reg_r reg_s r) ≡ only (ltb i (count reg_r) && ltb j (count reg_s) && near) ((i, j) ∷ [])
    unfolding footprints tiles classes runs
    found =
        at_its_runs
        ∙ by_bool (ltb i (count reg_r) && ltb j (count reg_s))
        (λ e.
        let h = runs_below (ltb-true i (count reg_r) (fst_true _ (ltb j (count reg_s)) e)) (ltb-true j (count reg_s) (snd_true (ltb i (count reg_r)) _ e)) in
        one_in_four near once (run_r / 16) (run_s / 16) (run_r % 16) (run_s % 16) (tile_count g) (tile_count g) 16 16 (omega arith) (omega arith) (omega arith) (omega arith)
        ∙ ap (only near) (pair_once i j (count reg_r) (count reg_s)) ∙ rw e refl)
        (λ e.
        let h : once ≡ [] = pair_once i j (count reg_r) (count reg_s) ∙ rw e refl in
        each_empty _ (tiles g) (λ t. each_empty _ (tiles g) (λ u. each_empty _ classes (λ a. each_empty _ classes (λ b. nowhere (here t u a b) h))))
        ∙ rw e refl)
      where
        nowhere : (b : Bool) → once ≡ [] → only b once ≡ []
        nowhere true h = h
        nowhere false h = refl

    declared_once : pair_times (i, j) (declared_pairs g reg_r reg_s r) ≡ cond (ltb i (count reg_r) && ltb j (count reg_s) && near) 1 0
    declared_once = ap length found ∙ times (ltb i (count reg_r) && ltb j (count reg_s) && near)
      where
        times : (b : Bool) → length {A = Pair} (only b ((i, j) ∷ [])) ≡ cond b 1 0
        times true = refl
        times false = refl

    -- a join lists the two once where they are footprints of their registers and within r, and else not
    pub each_pair_once : pair_times (i, j) (join_pairs g tr ts r)
        ≡ cond (ltb i (count reg_r) && ltb j (count reg_s) && within r (rectangle g reg_r i) (rectangle g reg_s j)) 1 0
    each_pair_once = ap (pair_times (i, j)) join_is_declared ∙ declared_once

  -- the whole promise: the declared pairs, where they find room
  pub join_gives_declared : (out : List ℕ)
      → joins g tr ts r out ≡ fit (length (declared_pairs g reg_r reg_s r)) (each pair_writes (declared_pairs g reg_r reg_s r)) out
  unfolding joins
  join_gives_declared out = rw (join_passes, join_is_declared)
