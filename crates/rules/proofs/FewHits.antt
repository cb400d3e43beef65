-- How many numbers searches write: each run that is read shows no damage and has at most 268,435,456 entries, and there are at most
-- 16×64×64 runs; so all lists of 65,536 probes are counted in 64 bits, also with three numbers a hit. Assumes nothing.
use mathlib.Core.Path.{◌≡◌, refl, ap}
use mathlib.Core.Bool.{Bool, true, false, not}
use mathlib.Core.List.{List, [], ◌∷◌}
use mathlib.Core.Option.{Option, none, some}
use Prim.Native.Nat.{ℕ, suc, ◌*◌, ◌^◌, ◌≤◌, ◌<◌, zero-le}
use native.Mathlib.Nat.{mul-le-mul, mul-suc, not-suc-le-zero}
use native.Mathlib.Omega.{arith}
use lib.Dec.{ltb}
use lib.ListN.{length, length-append}
use borrow.Author.Tests.{not-false}
use Rattle.laws.specs.Lists.{up_to, each}
use Rattle.laws.proofs.Ranges.{length_from}
use Rattle.laws.proofs.Lengths.{length_filter}
use Rattle.laws.proofs.Computed.{all_mem}
use Rattle.rules.specs.Sizes.{most_tiles, most_entries, most_radius, bad_sizes, bad_point, tile_count}
use Rattle.rules.specs.Tables.{Tables, runs, run_at, bad_lengths, good_run, good_runs}
use Rattle.rules.specs.Refusals.{Verdict, pass, refuse, judge, unless}
use Rattle.rules.specs.Search.{read_runs, is_hit, radius_hits, hit_numbers, hit_writes, search_verdict}
use Rattle.rules.specs.Probes.{most_probes, point_of, probe_writes, probes_write, first_refused}
use Rattle.rules.specs.declared.Grid.{Grid}
use Rattle.rules.specs.declared.Point.{Point}
use Rattle.rules.specs.declared.Probe.{Probe}
use Rattle.rules.specs.declared.Refusal.{Refusal}
use Rattle.rules.specs.declared.Refusal.TheVariants.{Sizes, Lengths, Place, Radius, Damage}
use Rattle.rules.proofs.Good.{good_sizes}
use Rattle.rules.proofs.JoinCount.{good_ends, run_length}
use Rattle.rules.proofs.Lengths.{each_length}
use Rattle.rules.proofs.Visits.{reads, read_runs_are}

-- ---- the numbers of hits

module _ (g : Grid) (reg : List ℕ) (q : Point) where
  pub hit_numbers_law : (i : ℕ) → length (hit_writes g reg q i) ≡ hit_numbers
  unfolding hit_writes
  hit_numbers_law i = refl

  pub writes_count : (l : List ℕ) → length (each (hit_writes g reg q) l) ≡ hit_numbers * length l
  writes_count [] = omega arith
  writes_count (i ∷ l) =
      omega (arith, length-append (hit_writes g reg q i) (each (hit_writes g reg q) l), hit_numbers_law i, writes_count l, mul-suc hit_numbers (length l))

-- ---- the hits of a search that is not refused

passes : (b : Bool) (r : Refusal) (v : Verdict) → judge b r v ≡ pass → (b ≡ false) × (v ≡ pass)
passes true r v e = let z : ◌≡◌ {A = ℕ} 0 1 = cc in absurd (not-suc-le-zero {n = 0} (omega arith))
passes false r v e = (refl, e)

module _ (g : Grid) (t : Tables) where
  -- what is known of it here
  fine : (q : Point) (r : ℕ) → search_verdict g t q r ≡ pass → (bad_sizes g ≡ false) × (good_runs g t (read_runs g q r) ≡ true)
  unfolding search_verdict
  fine q r e =
      let a = passes (bad_sizes g) Sizes _ e in
      let b = passes (bad_lengths g t) Lengths _ a.1 in
      let c = passes (bad_point g q) Place _ b.1 in
      let d = passes (ltb most_radius r) Radius _ c.1 in
      let f = passes (not (good_runs g t (read_runs g q r))) Damage pass d.1 in
      (a.0, not-false _ f.0)

  few_runs : (q : Point) (r : ℕ) → bad_sizes g ≡ false → length (read_runs g q r) ≤ 16 * (most_tiles * most_tiles)
  unfolding runs tile_count
  few_runs q r e =
      let m = (good_sizes g e).n_most in
      let s : g.n * g.n ≤ 64 * 64 = mul-le-mul m m in
      omega (arith, ap length (read_runs_are g q r), length_filter (reads g q r) (up_to (runs g)), length_from 0 (runs g))

  pub few_hits : (q : Point) (r : ℕ) → search_verdict g t q r ≡ pass → length (radius_hits g t q r) ≤ most_tiles * (most_tiles * (16 * most_entries))
  unfolding radius_hits good_runs
  few_hits q r e =
      let f = fine q r e in
      let ks = read_runs g q r in
      omega (
        arith,
        length_filter (is_hit g t.reg q r) (each (run_at t) ks),
        each_length (run_at t) 268435456 ks
            (λ k m. let h = good_ends g t k (all_mem (good_run g t) ks f.1 m) in omega (arith, run_length t k)),
        few_runs q r f.0,
      )

  -- ---- the numbers of a list, and of all lists

  pub few_written : (p : Probe) → search_verdict g t (point_of p) p.r ≡ pass
      → length (probe_writes g t p) ≤ hit_numbers * (most_tiles * (most_tiles * (16 * most_entries)))
  unfolding probe_writes
  few_written p e = omega (arith, writes_count g t.reg (point_of p) (radius_hits g t (point_of p) p.r), few_hits (point_of p) p.r e)

  -- where no probe is refused, the first passes and none of the others is refused
  pub first_passes : (i : ℕ) (p : Probe) (ps : List Probe) → first_refused g t i (p ∷ ps) ≡ none
      → (search_verdict g t (point_of p) p.r ≡ pass) × (first_refused g t (suc i) ps ≡ none)
  unfolding first_refused
  first_passes i p ps e = go (search_verdict g t (point_of p) p.r) (first_refused g t (suc i) ps) e
    where
      go : (v : Verdict) (o : Option (Refusal × ℕ)) → unless v (λ why. some (why, i)) o ≡ none → (v ≡ pass) × (o ≡ none)
      go pass o e = (refl, e)
      go (refuse u) o e = let z : ◌≡◌ {A = ℕ} 0 1 = cc in absurd (not-suc-le-zero {n = 0} (omega arith))

  all_written : (i : ℕ) (ps : List Probe) → first_refused g t i ps ≡ none
      → length (probes_write g t ps) ≤ length ps * (hit_numbers * (most_tiles * (most_tiles * (16 * most_entries))))
  unfolding probes_write
  all_written i [] e = zero-le
  all_written i (p ∷ ps) e =
      let n = first_passes i p ps e in
      omega (
        arith,
        length-append (probe_writes g t p) (each (probe_writes g t) ps),
        few_written p n.0,
        all_written (suc i) ps n.1,
      )

  -- with up to three numbers a hit
  pub total_fits : (ps : List Probe) → length ps ≤ most_probes → first_refused g t 0 ps ≡ none
      → (length (probes_write g t ps) ≤ 3 * 2 ^ 44 * 2 ^ 16) × (length (probes_write g t ps) < 2 ^ 64)
  total_fits ps h e = let w = all_written 0 ps e in (omega arith, omega arith)
