-- Demand 2 for a list of searches: on tables as the build left them each list is the declared one of its probe, each footprint within its
-- radius once, and damage is never met. Assumes nothing.
use mathlib.Core.Path.{◌≡◌, refl, sym, ap, ◌∙◌}
use mathlib.Core.Bool.{Bool, true, false, cond, ◌&&◌, ◌||◌}
use mathlib.Core.List.{List, [], ◌∷◌}
use mathlib.Core.Option.{Option, none, some}
use Prim.Native.Nat.{ℕ, ◌+◌, ◌≤◌, ◌<◌}
use lib.Dec.{ltb, eqb}
use lib.ListN.{length}
use borrow.Author.Tests.{le-ltb}
use Rattle.std.specs.Prelude.{Ok, Err}
use Rattle.laws.specs.Lists.{each, over, times}
use Rattle.laws.proofs.Lists.{each_same}
use Rattle.rules.specs.Sizes.{bad_point, most_radius}
use Rattle.rules.specs.Register.{count}
use Rattle.rules.specs.Tables.{bad_lengths, built_tables}
use Rattle.rules.specs.Refusals.{paper, paper_listed, Verdict, pass, refuse, judge, unless}
use Rattle.rules.specs.Search.{read_runs, is_hit, radius_hits, hit_writes, search_verdict, declared_hits}
use Rattle.rules.specs.Probes.{most_probes, point_of, probe_writes, probes_write, list_ends, probes_verdict, first_refused, lists_room, searches_all}
use Rattle.rules.specs.declared.Grid.{Grid}
use Rattle.rules.specs.declared.Probe.{Probe}
use Rattle.rules.specs.declared.Refusal.{Refusal}
use Rattle.rules.specs.declared.Refusal.TheVariants.{Lengths, Place, Radius, Room}
use Rattle.rules.specs.declared.ListRefusal.{ListRefusal}
use Rattle.rules.specs.declared.ListRefusal.TheVariants.{At, Whole}
use Rattle.rules.proofs.Good.{Accepted}
use Rattle.rules.proofs.Built.{good_lengths, no_damage_in}
use Rattle.rules.proofs.Visits.{read_below}
use Rattle.rules.proofs.FirstRefused.{probe_at, all_pass, first_found}
use Rattle.rules.proofs.Probes.{judged_as}
use Rattle.demands.proofs.Search.{list_is_declared, each_once, nothing_refused}

-- ---- what a register declares for a list of searches

-- the numbers of a probe's list
abbrev pub declared_writes : Grid → List ℕ → Probe → List ℕ
declared_writes g reg p = each (hit_writes g reg (point_of p)) (declared_hits g reg (point_of p) p.r)

-- each list's end, where the first begins at place a
abbrev pub declared_ends : Grid → List ℕ → ℕ → List Probe → List ℕ
declared_ends g reg a [] = []
declared_ends g reg a (p ∷ ps) = (a + length (declared_writes g reg p)) ∷ declared_ends g reg (a + length (declared_writes g reg p)) ps

-- a refusal is of damage
abbrev damages : Refusal → Bool
damages why = eqb (paper why).number 7

module _ (g : Grid) (reg tail : List ℕ) (ok : Accepted g reg) where
  -- ---- each list

  pub probe_list_declared : (p : Probe) → probe_writes g (built_tables g reg tail) p ≡ declared_writes g reg p
  unfolding probe_writes built_tables
  probe_list_declared p = ap (each (hit_writes g reg (point_of p))) (list_is_declared g reg tail ok (point_of p) p.r)

  -- each footprint within the probe's radius exactly once, and no other
  pub probe_each_once : (p : Probe) (i : ℕ)
      → times i (radius_hits g (built_tables g reg tail) (point_of p) p.r) ≡ cond (ltb i (count reg) && is_hit g reg (point_of p) p.r i) 1 0
  probe_each_once p = each_once g reg tail ok (point_of p) p.r

  pub lists_declared : (ps : List Probe) → probes_write g (built_tables g reg tail) ps ≡ each (declared_writes g reg) ps
  unfolding probes_write
  lists_declared ps = each_same (probe_writes g (built_tables g reg tail)) (declared_writes g reg) ps probe_list_declared

  pub ends_declared : (a : ℕ) (ps : List Probe) → list_ends g (built_tables g reg tail) a ps ≡ declared_ends g reg a ps
  unfolding list_ends
  ends_declared a [] = refl
  ends_declared a (p ∷ ps) = rw (probe_list_declared p, ends_declared (a + length (declared_writes g reg p)) ps)

  -- ---- damage is never met, whatever the probes are

  single_not_damaged : (p : Probe) → unless (search_verdict g (built_tables g reg tail) (point_of p) p.r) damages false ≡ false
  unfolding search_verdict paper
  single_not_damaged p =
      rw (ok.sizes, good_lengths g reg ok tail, no_damage_in g reg ok tail (read_runs g (point_of p) p.r) (read_below g (point_of p) p.r))
      (go (bad_point g (point_of p)) (ltb most_radius p.r))
    where
      go : (a b : Bool) → unless (judge a Place (judge b Radius pass)) damages false ≡ false
      go true b = refl
      go false true = refl
      go false false = refl

  sizes_not_damaged : (m : ℕ) → unless (probes_verdict g (built_tables g reg tail) m) damages false ≡ false
  unfolding probes_verdict paper
  sizes_not_damaged m = rw ok.sizes (go (bad_lengths g (built_tables g reg tail) || ltb most_probes m))
    where
      go : (b : Bool) → unless (judge b Lengths pass) damages false ≡ false
      go true = refl
      go false = refl

  room_not_damaged : (total m : ℕ) (out ends : List ℕ) → unless (lists_room total m out ends) damages false ≡ false
  unfolding lists_room paper
  room_not_damaged total m out ends = go (ltb (length out) total) (ltb (length ends) m)
    where
      go : (a b : Bool) → unless (judge a (Room total) (judge b (Room m) pass)) damages false ≡ false
      go true b = refl
      go false true = refl
      go false false = refl

  pub never_damaged : (ps : List Probe) (out ends : List ℕ) → eqb (searches_all g (built_tables g reg tail) ps out ends).0.number 7 ≡ false
  unfolding searches_all paper_listed
  never_damaged ps out ends =
      go (probes_verdict g (built_tables g reg tail) (length ps)) (sizes_not_damaged (length ps))
      (first_refused g (built_tables g reg tail) 0 ps) refl
      (lists_room (length (probes_write g (built_tables g reg tail) ps)) (length ps) out ends)
      (room_not_damaged (length (probes_write g (built_tables g reg tail) ps)) (length ps) out ends)
      (length (probes_write g (built_tables g reg tail) ps)) _ _
    where
      go : (v : Verdict) → unless v damages false ≡ false → (w : Option (Refusal × ℕ)) → first_refused g (built_tables g reg tail) 0 ps ≡ w
          → (u : Verdict) → unless u damages false ≡ false → (total : ℕ) (o e : List ℕ)
          → eqb (judged_as v w u (paper_listed (Ok total), o, e) out ends).0.number 7 ≡ false
      go (refuse why) h w f u k total o e = h
      go pass h (some x) f u k total o e =
          ap (λ (v : Verdict). unless v damages false) (sym (first_found g (built_tables g reg tail) ps x.0 x.1 f).1)
          ∙ single_not_damaged (probe_at ps x.1)
      go pass h none f (refuse why) k total o e = k
      go pass h none f pass k total o e = refl

  -- ---- the whole promise, for probes that lie on the grid and reach no further than they may

  module _ (ps : List Probe) (few : length ps ≤ most_probes)
      (on : (i : ℕ) → i < length ps → bad_point g (point_of (probe_at ps i)) ≡ false)
      (small : (i : ℕ) → i < length ps → (probe_at ps i).r ≤ most_radius) where
    pub probes_pass : probes_verdict g (built_tables g reg tail) (length ps) ≡ pass
    unfolding probes_verdict
    probes_pass = rw (ok.sizes, good_lengths g reg ok tail, le-ltb most_probes (length ps) few)

    pub no_probe_refused : first_refused g (built_tables g reg tail) 0 ps ≡ none
    no_probe_refused =
        all_pass g (built_tables g reg tail) 0 ps (λ i h. nothing_refused g reg tail ok (point_of (probe_at ps i)) (probe_at ps i).r (on i h) (small i h))

    -- nothing is refused but room
    pub search_all_is : (out ends : List ℕ)
        → searches_all g (built_tables g reg tail) ps out ends
        ≡ unless (lists_room (length (each (declared_writes g reg) ps)) (length ps) out ends) (λ why. (paper_listed (Err (Whole why)), out, ends))
        (paper_listed (Ok (length (each (declared_writes g reg) ps))), over (each (declared_writes g reg) ps) out, over (declared_ends g reg 0 ps) ends)
    unfolding searches_all
    search_all_is out ends = rw (probes_pass, no_probe_refused, lists_declared ps, ends_declared 0 ps)
