-- Demand 2 for the radius search: on tables as the build left them it lists each footprint within the radius exactly once and no other,
-- ordered by reporting tile, class there and number; and it never meets damage. Assumes nothing.
use mathlib.Core.Path.{◌≡◌, refl, sym, ap, ◌∙◌}
use mathlib.Core.Bool.{Bool, true, false, cond, ◌&&◌}
use mathlib.Core.List.{List, [], ◌∷◌}
use Prim.Native.Nat.{ℕ, ◌/◌, ◌≤◌, ◌<◌, zero-le}
use native.Mathlib.Nat.{zero-add}
use native.Mathlib.Omega.{arith}
use lib.Dec.{ltb, eqb}
use lib.ListN.{length}
use borrow.Author.Tests.{eqb-true, le-ltb, lt-ltb}
use Rattle.laws.specs.Lists.{filter, up_to, each, only, times}
use Rattle.laws.proofs.Tests.{by_le}
use Rattle.laws.proofs.Lists.{filter_each, each_filter, filter_filter, only_filter, each_empty}
use Rattle.laws.proofs.Ranges.{filter_from, each_from, pick, each_one}
use Rattle.rules.specs.Sizes.{bad_point, most_radius}
use Rattle.rules.specs.Distance.{within, point}
use Rattle.rules.specs.Register.{count, footprints, rectangle}
use Rattle.rules.specs.Tables.{runs, run_at, stands, built_run, built_tables}
use Rattle.rules.specs.Refusals.{pass, fit}
use Rattle.rules.specs.Search.{allowed_run, visits, read_runs, is_hit, radius_hits, hit_writes, search_verdict, searches, report_run, reported, declared_hits}
use Rattle.rules.specs.declared.Grid.{Grid}
use Rattle.rules.specs.declared.Point.{Point}
use Rattle.rules.specs.declared.Rect.{Rect}
use Rattle.rules.proofs.Good.{GoodRect, good_sizes, Accepted, good_footprint}
use Rattle.rules.proofs.Report.{given_by_one_run, report_run_tile, report_run_below}
use Rattle.rules.proofs.Built.{built_run_law, good_lengths, no_damage_in}
use Rattle.rules.proofs.Visits.{reads, read_runs_are, read_below, reporting_is_visited}

-- a tile that gives a hit is visited, so the visit need not be asked of a hit
drop_visit : (v o s w : Bool) → ((s && o) ≡ true → w ≡ true → v ≡ true) → (((v && o) && s) && w) ≡ ((s && o) && w)
drop_visit true true true w h = refl
drop_visit true true false w h = refl
drop_visit true false true w h = refl
drop_visit true false false w h = refl
drop_visit false true true true h = h refl refl
drop_visit false true true false h = refl
drop_visit false true false w h = refl
drop_visit false false true w h = refl
drop_visit false false false w h = refl

module _ (g : Grid) (reg tail : List ℕ) (ok : Accepted g reg) (q : Point) (r : ℕ) where
  abbrev pos : 0 < g.side
  pos = (good_sizes g ok.sizes).side_pos

  -- footprint i is read and listed in run k exactly if that is the run that reports it
  given_in : (k i : ℕ) → i < count reg → ((reads g q r k && stands g reg k i) && is_hit g reg q r i) ≡ reported g reg q r k i
  unfolding reads stands is_hit reported
  given_in k i h =
      drop_visit (visits g q r (k / 16)) (allowed_run g q k) _ _ (λ u w. visible (eqb-true _ _ (sym (given_by_one_run g pos q a good k) ∙ u)) w)
      ∙ ap (λ (b : Bool). b && within r (point q) a) (given_by_one_run g pos q a good k)
    where
      a : Rect
      a = rectangle g reg i

      good : GoodRect g a
      good = good_footprint g reg ok i h

      visible : k ≡ report_run g q a → within r (point q) a ≡ true → visits g q r (k / 16) ≡ true
      visible e w = rw (e, report_run_tile g pos q a good) (reporting_is_visited g q r pos a good w)

  -- the list by the steps is the declared list
  pub list_is_declared : radius_hits g (built_tables g reg tail) q r ≡ declared_hits g reg q r
  unfolding radius_hits declared_hits built_run footprints built_tables
  list_is_declared =
      ap (λ (ks : List ℕ). filter (is_hit g reg q r) (each (run_at (built_tables g reg tail)) ks)) (read_runs_are g q r)
      ∙ ap (filter (is_hit g reg q r)) (each_filter (reads g q r) (run_at (built_tables g reg tail)) (up_to (runs g)))
      ∙ filter_each (is_hit g reg q r) (λ k. only (reads g q r k) (run_at (built_tables g reg tail) k)) (up_to (runs g))
      ∙ each_from _ _ 0 (runs g) (λ k _ v.
      ap (λ (l : List ℕ). filter (is_hit g reg q r) (only (reads g q r k) l)) (built_run_law g reg tail k (omega arith))
      ∙ ap (filter (is_hit g reg q r)) (only_filter (reads g q r k) (stands g reg k) (up_to (count reg)))
      ∙ filter_filter (is_hit g reg q r) (λ i. reads g q r k && stands g reg k i) (up_to (count reg))
      ∙ filter_from _ _ 0 (count reg) (λ i _ h. given_in k i (omega arith)))

  -- i stands in the list once where it is a footprint within r, and else not at all
  listed : (i : ℕ) → filter (eqb i) (declared_hits g reg q r) ≡ only (ltb i (count reg) && is_hit g reg q r i) (i ∷ [])
  unfolding declared_hits footprints reported
  listed i =
      filter_each (eqb i) (λ k. filter (reported g reg q r k) (up_to (count reg))) (up_to (runs g))
      ∙ each_from _ (λ k. only (ltb i (count reg) && (eqb k run && is_hit g reg q r i)) (i ∷ [])) 0 (runs g)
      (λ k _ v. filter_filter (eqb i) (reported g reg q r k) (up_to (count reg)) ∙ pick (reported g reg q r k) i (count reg))
      ∙ in_one_run
    where
      run : ℕ
      run = report_run g q (rectangle g reg i)

      in_one_run : each (λ k. only (ltb i (count reg) && (eqb k run && is_hit g reg q r i)) (i ∷ [])) (up_to (runs g)) ≡ only (ltb i (count reg) && is_hit g reg q r i) (i ∷ [])
      in_one_run =
          by_le (count reg) i
          (λ h. rw (le-ltb i (count reg) h) (each_empty _ (up_to (runs g)) (λ _. refl)))
          (λ h. rw (lt-ltb i (count reg) h)
          (each_one (is_hit g reg q r i) (i ∷ []) run 0 (runs g) zero-le (rw zero-add (report_run_below g pos q (rectangle g reg i) (good_footprint g reg ok i h)))))

  -- each footprint within r exactly once, and no other
  pub each_once : (i : ℕ) → times i (radius_hits g (built_tables g reg tail) q r) ≡ cond (ltb i (count reg) && is_hit g reg q r i) 1 0
  each_once i = ap (λ (l : List ℕ). length (filter (eqb i) l)) list_is_declared ∙ ap length (listed i) ∙ counted (ltb i (count reg) && is_hit g reg q r i)
    where
      counted : (b : Bool) → length (only b (i ∷ [])) ≡ cond b 1 0
      counted true = refl
      counted false = refl

  module _ (on : bad_point g q ≡ false) (small : r ≤ most_radius) where
    -- nothing is refused but room
    pub nothing_refused : search_verdict g (built_tables g reg tail) q r ≡ pass
    unfolding search_verdict
    nothing_refused =
        rw (ok.sizes, good_lengths g reg ok tail, on, le-ltb most_radius r small, no_damage_in g reg ok tail (read_runs g q r) (read_below g q r))

    -- the whole promise on built tables
    pub search_is : (out : List ℕ)
        → searches g (built_tables g reg tail) q r out
        ≡ fit (length (declared_hits g reg q r)) (each (hit_writes g reg q) (declared_hits g reg q r)) out
    unfolding searches built_tables
    search_is out = rw (nothing_refused, list_is_declared)
