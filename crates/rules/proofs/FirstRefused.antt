-- Which probe of a list is the first that a single search refuses, room apart; and a single search that is refused so, whatever output it is
-- lent. Assumes nothing.
use mathlib.Core.Path.{◌≡◌, refl, sym, ap, ◌∙◌}
use mathlib.Core.Bool.{Bool, true, false, ◌||◌, not}
use mathlib.Core.List.{List, [], ◌∷◌}
use mathlib.Core.Option.{Option, none, some}
use Prim.Native.Nat.{ℕ, zero, suc, ◌+◌, ◌-◌, ◌≤◌, ◌<◌}
use native.Mathlib.Nat.{add-zero, add-suc, suc-add, le_of_suc-le-suc, not-suc-le-zero}
use native.Mathlib.Omega.{arith}
use lib.Dec.{ltb, eqb}
use lib.ListN.{length, get_or}
use borrow.Author.Tests.{le-ltb}
use Rattle.std.specs.Prelude.{Ok}
use Rattle.laws.specs.Lists.{over}
use Rattle.laws.proofs.Tests.{clash}
use Rattle.rules.specs.Sizes.{most_radius, bad_sizes, bad_point}
use Rattle.rules.specs.Tables.{Tables, bad_lengths, good_runs}
use Rattle.rules.specs.Refusals.{Paper, paper, paper_answer, Verdict, pass, refuse, judge, unless}
use Rattle.rules.specs.Search.{read_runs, radius_hits, search_verdict, searches}
use Rattle.rules.specs.Probes.{point_of, probe_writes, first_refused, unless_at}
use Rattle.rules.specs.declared.Grid.{Grid}
use Rattle.rules.specs.declared.Probe.{Probe}
use Rattle.rules.specs.declared.Refusal.{Refusal}
use Rattle.rules.specs.declared.Refusal.TheVariants.{Sizes, Lengths, Place, Radius, Damage}
use Rattle.rules.proofs.Papers.{refused_number, paper_loses_nothing}

-- probe i of a list
abbrev pub probe_at : List Probe → ℕ → Probe
probe_at ps i = get_or ps i (record { x = 0; y = 0; r = 0 })

-- the refusals 4, 5 and 7, that a probe meets
unfoldable pub of_probe : Refusal → Bool
of_probe why = eqb (paper why).number 4 || eqb (paper why).number 5 || eqb (paper why).number 7

-- cases on a verdict, and on what was found
pub by_verdict {ℓ} : {X : Type ℓ} (v : Verdict) → (v ≡ pass → X) → ((why : Refusal) → v ≡ refuse why → X) → X
by_verdict pass f h = f refl
by_verdict (refuse why) f h = h why refl

some_is_not_none {ℓ} : {X : Type ℓ} {w : Refusal × ℕ} → some w ≡ none → X
some_is_not_none e = clash (ap (λ (o : Option (Refusal × ℕ)). unless_at o (λ why i. true) false) e)

module _ (g : Grid) (t : Tables) where
  -- ---- a single search: what is refused whatever the output, and what for room alone

  module _ (p : Probe) where
    abbrev alone : List ℕ → Paper × List ℕ
    alone mine = searches g t (point_of p) p.r mine

    abbrev verdict : Verdict
    verdict = search_verdict g t (point_of p) p.r

    -- one that is refused nothing but room leaves its list over an output that has room for it
    pub alone_fits : verdict ≡ pass → (mine : List ℕ) → length (probe_writes g t p) ≤ length mine
        → alone mine ≡ (paper_answer (Ok (length (radius_hits g t (point_of p) p.r))), over (probe_writes g t p) mine)
    unfolding searches probe_writes
    alone_fits ok mine h = rw (ok, le-ltb (length mine) _ h)

    pub alone_refused : (why : Refusal) → verdict ≡ refuse why → (mine : List ℕ) → alone mine ≡ (paper why, mine)
    unfolding searches
    alone_refused why e mine = rw e

    -- a refusal that is the same for every output is not for room
    pub refused_always : (why : Refusal) → ((mine : List ℕ) → alone mine ≡ (paper why, mine)) → verdict ≡ refuse why
    unfolding paper_answer
    refused_always why h = go verdict refl
      where
        go : (v : Verdict) → verdict ≡ v → verdict ≡ refuse why
        go pass e =
            let done = sym (alone_fits e (probe_writes g t p) (omega arith)) ∙ h (probe_writes g t p) in
            clash (ap (λ (x : Paper × List ℕ). eqb x.0.number 0) done ∙ refused_number why)
        go (refuse v) e =
            e ∙ ap refuse (paper_loses_nothing v why (ap (λ (x : Paper × List ℕ). x.0) (sym (alone_refused v e []) ∙ h [])))

    -- and one that is accepted wherever there is room is refused nothing but room
    pub room_alone : ((mine : List ℕ) → length (probe_writes g t p) ≤ length mine → (alone mine).0.number ≡ 0) → verdict ≡ pass
    room_alone h = go verdict refl
      where
        go : (v : Verdict) → verdict ≡ v → verdict ≡ pass
        go pass e = e
        go (refuse v) e =
            let zeroed = ap (λ (x : Paper × List ℕ). x.0.number) (sym (alone_refused v e (probe_writes g t p))) ∙ h (probe_writes g t p) (omega arith) in
            clash (sym (ap (λ (n : ℕ). eqb n 0) zeroed) ∙ refused_number v)

    -- such a refusal is 4, 5 or 7 where sizes and lengths are good
    pub refused_of_probe : (why : Refusal) → bad_sizes g ≡ false → bad_lengths g t ≡ false → verdict ≡ refuse why → of_probe why ≡ true
    unfolding search_verdict of_probe paper
    refused_of_probe why sizes lengths e =
        go (bad_point g (point_of p)) (ltb most_radius p.r) (not (good_runs g t (read_runs g (point_of p) p.r)))
        (sym (ap (λ (b : Bool). judge b Sizes (judge (bad_lengths g t) Lengths rest)) sizes ∙ ap (λ (b : Bool). judge b Lengths rest) lengths) ∙ e)
      where
        rest : Verdict
        rest = judge (bad_point g (point_of p)) Place (judge (ltb most_radius p.r) Radius (judge (not (good_runs g t (read_runs g (point_of p) p.r))) Damage pass))

        go : (a b c : Bool) → judge a Place (judge b Radius (judge c Damage pass)) ≡ refuse why → of_probe why ≡ true
        go true b c u = ap (λ (v : Verdict). unless v of_probe true) (sym u)
        go false true c u = ap (λ (v : Verdict). unless v of_probe true) (sym u)
        go false false true u = ap (λ (v : Verdict). unless v of_probe true) (sym u)
        go false false false u = ap (λ (v : Verdict). unless v of_probe true) (sym u)

  -- ---- the first probe that is refused

  abbrev verdict_of : List Probe → ℕ → Verdict
  verdict_of ps i = verdict (probe_at ps i)

  one_more : (p : Probe) (ps : List Probe) (m : ℕ) → verdict p ≡ pass → ((j : ℕ) → j < m → verdict_of ps j ≡ pass)
      → (j : ℕ) → j < suc m → verdict_of (p ∷ ps) j ≡ pass
  one_more p ps m u h zero b = u
  one_more p ps m u h (suc j) b = h j (le_of_suc-le-suc b)

  later : (p : Probe) (ps : List Probe) (k : ℕ) (why : Refusal) (i : ℕ) → verdict p ≡ pass
      → (suc k ≤ i) × (i - suc k < length ps) × (verdict_of ps (i - suc k) ≡ refuse why) × ((j : ℕ) → j < i - suc k → verdict_of ps j ≡ pass)
      → (k ≤ i) × (i - k < length (p ∷ ps)) × (verdict_of (p ∷ ps) (i - k) ≡ refuse why) × ((j : ℕ) → j < i - k → verdict_of (p ∷ ps) j ≡ pass)
  later p ps k why i u s =
      let a = s.0 in
      let b = s.1 in
      let next : i - k ≡ suc (i - suc k) = omega (arith, a) in
      rw next (omega (arith, a), omega (arith, b), s.2, one_more p ps (i - suc k) u s.3)

  passed_on : (k : ℕ) (p : Probe) (ps : List Probe) → verdict p ≡ pass → first_refused g t k (p ∷ ps) ≡ first_refused g t (suc k) ps
  unfolding first_refused
  passed_on k p ps e = rw e

  refused_here : (k : ℕ) (p : Probe) (ps : List Probe) (why : Refusal) → verdict p ≡ refuse why → first_refused g t k (p ∷ ps) ≡ some (why, k)
  unfolding first_refused
  refused_here k p ps why e = rw e

  -- where all pass, none is refused, and the other way round
  pub all_pass : (k : ℕ) (ps : List Probe) → ((i : ℕ) → i < length ps → verdict_of ps i ≡ pass) → first_refused g t k ps ≡ none
  unfolding first_refused
  all_pass k [] h = refl
  all_pass k (p ∷ ps) h = passed_on k p ps (h 0 (omega arith)) ∙ all_pass (suc k) ps (λ i b. h (suc i) (omega arith))

  pub none_refused : (k : ℕ) (ps : List Probe) → first_refused g t k ps ≡ none → (i : ℕ) → i < length ps → verdict_of ps i ≡ pass
  none_refused k [] e i h = absurd (not-suc-le-zero h)
  none_refused k (p ∷ ps) e zero h = by_verdict (verdict p) (λ u. u) (λ why u. some_is_not_none (sym (refused_here k p ps why u) ∙ e))
  none_refused k (p ∷ ps) e (suc i) h =
      by_verdict (verdict p) (λ u. none_refused (suc k) ps (sym (passed_on k p ps u) ∙ e) i (le_of_suc-le-suc h))
      (λ why u. some_is_not_none (sym (refused_here k p ps why u) ∙ e))

  -- one behind others that pass is the first, and the first stands behind such
  pub first_is : (k : ℕ) (ps : List Probe) (why : Refusal) (i : ℕ) → i < length ps → verdict_of ps i ≡ refuse why
      → ((j : ℕ) → j < i → verdict_of ps j ≡ pass) → first_refused g t k ps ≡ some (why, k + i)
  first_is k [] why i h e passes = absurd (not-suc-le-zero h)
  first_is k (p ∷ ps) why zero h e passes = refused_here k p ps why e ∙ ap (λ (n : ℕ). some (why, n)) (sym (add-zero k))
  first_is k (p ∷ ps) why (suc i) h e passes =
      passed_on k p ps (passes 0 (omega arith))
      ∙ first_is (suc k) ps why i (le_of_suc-le-suc h) e (λ j b. passes (suc j) (omega arith))
      ∙ ap (λ (n : ℕ). some (why, n)) (suc-add k i ∙ sym (add-suc k i))

  first_stands : (k : ℕ) (ps : List Probe) (why : Refusal) (i : ℕ) → first_refused g t k ps ≡ some (why, i)
      → (k ≤ i) × (i - k < length ps) × (verdict_of ps (i - k) ≡ refuse why) × ((j : ℕ) → j < i - k → verdict_of ps j ≡ pass)
  unfolding first_refused
  first_stands k [] why i e = some_is_not_none (sym e)
  first_stands k (p ∷ ps) why i e =
      by_verdict (verdict p) (λ u. later p ps k why i u (first_stands (suc k) ps why i (sym (passed_on k p ps u) ∙ e)))
      (λ w u. here (sym (refused_here k p ps w u) ∙ e) u)
    where
      here : {w : Refusal} → ◌≡◌ {A = Option (Refusal × ℕ)} (some (w, k)) (some (why, i)) → verdict p ≡ refuse w
          → (k ≤ i) × (i - k < length (p ∷ ps)) × (verdict_of (p ∷ ps) (i - k) ≡ refuse why) × ((j : ℕ) → j < i - k → verdict_of (p ∷ ps) j ≡ pass)
      here {w} s u =
          let same = ap (λ (o : Option (Refusal × ℕ)). unless_at o (λ x n. n) 0) s in
          let nought : i - k ≡ 0 = omega arith in
          rw nought (
            omega arith,
            omega arith,
            u ∙ ap (λ (o : Option (Refusal × ℕ)). unless_at o (λ x n. refuse x) pass) s,
            λ j b. absurd (not-suc-le-zero b),
          )

  pub first_found : (ps : List Probe) (why : Refusal) (i : ℕ) → first_refused g t 0 ps ≡ some (why, i)
      → (i < length ps) × (verdict_of ps i ≡ refuse why) × ((j : ℕ) → j < i → verdict_of ps j ≡ pass)
  first_found ps why i e = let s = first_stands 0 ps why i e in go (i - 0) (omega arith) (s.1, s.2, s.3)
    where
      go : (m : ℕ) → m ≡ i → (m < length ps) × (verdict_of ps m ≡ refuse why) × ((j : ℕ) → j < m → verdict_of ps j ≡ pass)
          → (i < length ps) × (verdict_of ps i ≡ refuse why) × ((j : ℕ) → j < i → verdict_of ps j ≡ pass)
      go m z h = rw (← z) h
