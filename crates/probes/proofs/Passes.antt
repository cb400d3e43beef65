-- A pass over a list of probes: one probe's step, and all of them: the first that is refused, or every list and every end. Assumes nothing.
use mathlib.Core.Path.{◌≡◌, refl, sym, ap, ◌∙◌}
use mathlib.Core.List.{List, [], ◌∷◌, ◌++◌}
use mathlib.Core.Option.{Option, none, some}
use Prim.Native.Nat.{ℕ, zero, suc, ◌+◌, ◌≤◌, ◌<◌}
use native.Mathlib.Nat.{zero-add, not-suc-le-zero}
use native.Mathlib.Omega.{arith}
use lib.ListN.{length, get_or, take, drop, set, length-append, length-set, take-append-drop, drop_of_length-le}
use lib.Seq.{drop-cons}
use Rattle.std.specs.Prelude.{Ok, Err}
use Rattle.laws.specs.Lists.{each, over}
use Rattle.rules.specs.Tables.{Tables}
use Rattle.rules.specs.Refusals.{Verdict, pass, refuse}
use Rattle.rules.specs.Search.{search_verdict}
use Rattle.rules.specs.Probes.{point_of, probe_writes, probes_write, list_ends, first_refused, unless_at}
use Rattle.rules.specs.declared.Grid.{Grid}
use Rattle.rules.specs.declared.Probe.{Probe}
use Rattle.rules.specs.declared.Refusal.{Refusal}
use Rattle.rules.specs.declared.ListRefusal.{ListRefusal}
use Rattle.rules.specs.declared.ListRefusal.TheVariants.{At}
use Rattle.rules.proofs.FewHits.{first_passes}
use Rattle.rules.proofs.FirstRefused.{by_verdict}
use Rattle.probes.specs.Listing.{Listed, keep_at, Pass, list_at, list_one, no_probe, list_from, list_all}
use Rattle.probes.proofs.Behind.{kept_length, kept_fits, behind_more, front_more}

-- ---- one probe

module _ (g : Grid) (t : Tables) (p : Probe) (i : ℕ) where
  abbrev verdict : Verdict
  verdict = search_verdict g t (point_of p) p.r

  -- what a search that is not refused leaves
  abbrev after : ℕ → List ℕ → List ℕ → Pass
  after total lent ends =
      (Ok (total + length (probe_writes g t p)), keep_at total (probe_writes g t p) lent, set ends i (total + length (probe_writes g t p)))

  pub one_passes : verdict ≡ pass → (total : ℕ) (lent ends : List ℕ) → list_one g t p i (Ok total) lent ends ≡ after total lent ends
  unfolding list_one list_at
  one_passes e total lent ends = rw e

  pub one_refused : (why : Refusal) → verdict ≡ refuse why → (total : ℕ) (lent ends : List ℕ)
      → ◌≡◌ {A = Pass} (list_one g t p i (Ok total) lent ends) (Err (At why i), lent, ends)
  unfolding list_one list_at
  one_refused why e total lent ends = rw e

  stays : (why : ListRefusal) (lent ends : List ℕ) → ◌≡◌ {A = Pass} (list_one g t p i (Err why) lent ends) (Err why, lent, ends)
  unfolding list_one
  stays why lent ends = refl

  -- ---- the lengths

  pub lent_length : (so : Listed) (lent ends : List ℕ) → length (list_one g t p i so lent ends).1 ≡ length lent
  lent_length (Ok total) lent ends =
      by_verdict verdict
      (λ v. ap (λ (s : Pass). length s.1) (one_passes v total lent ends) ∙ kept_length total (probe_writes g t p) lent)
      (λ why v. ap (λ (s : Pass). length s.1) (one_refused why v total lent ends))
  lent_length (Err why) lent ends = ap (λ (s : Pass). length s.1) (stays why lent ends)

  pub ends_length : (so : Listed) (lent ends : List ℕ) → length (list_one g t p i so lent ends).2 ≡ length ends
  ends_length (Ok total) lent ends =
      by_verdict verdict
      (λ v. ap (λ (s : Pass). length s.2) (one_passes v total lent ends) ∙ length-set ends i (total + length (probe_writes g t p)))
      (λ why v. ap (λ (s : Pass). length s.2) (one_refused why v total lent ends))
  ends_length (Err why) lent ends = ap (λ (s : Pass). length s.2) (stays why lent ends)

-- ---- all probes

module _ (g : Grid) (t : Tables) (ps : List Probe) where
  -- probe i
  abbrev probe : ℕ → Probe
  probe i = get_or ps i no_probe

  abbrev verdict_at : ℕ → Verdict
  verdict_at i = search_verdict g t (point_of (probe i)) (probe i).r

  -- the lists and the ends of the probes from i on
  abbrev lists_from : ℕ → List ℕ
  lists_from i = probes_write g t (drop i ps)

  abbrev ends_from : ℕ → ℕ → List ℕ
  ends_from total i = list_ends g t total (drop i ps)

  -- ---- what is left, probe by probe

  next_probe : (i : ℕ) → i < length ps → drop i ps ≡ probe i ∷ drop (suc i) ps
  next_probe i h = drop-cons ps i no_probe h

  lists_next : (i : ℕ) → i < length ps → lists_from i ≡ probe_writes g t (probe i) ++ lists_from (suc i)
  unfolding probes_write
  lists_next i h = ap (each (probe_writes g t)) (next_probe i h)

  ends_next : (total i : ℕ) → i < length ps
      → ends_from total i ≡ (total + length (probe_writes g t (probe i))) ∷ ends_from (total + length (probe_writes g t (probe i))) (suc i)
  unfolding list_ends
  ends_next total i h = ap (list_ends g t total) (next_probe i h)

  refused_later : (i : ℕ) → i < length ps → verdict_at i ≡ pass → first_refused g t i (drop i ps) ≡ first_refused g t (suc i) (drop (suc i) ps)
  unfolding first_refused
  refused_later i h v = ap (first_refused g t i) (next_probe i h) ∙ rw v

  refused_here : (i : ℕ) → i < length ps → (why : Refusal) → verdict_at i ≡ refuse why → first_refused g t i (drop i ps) ≡ some (why, i)
  unfolding first_refused
  refused_here i h why v = ap (first_refused g t i) (next_probe i h) ∙ rw v

  none_next : (i : ℕ) → i < length ps → first_refused g t i (drop i ps) ≡ none
      → (verdict_at i ≡ pass) × (first_refused g t (suc i) (drop (suc i) ps) ≡ none)
  none_next i h f = first_passes g t i (probe i) (drop (suc i) ps) (sym (ap (first_refused g t i) (next_probe i h)) ∙ f)

  none_left : (i : ℕ) → i + zero ≡ length ps → drop i ps ≡ []
  none_left i e = let h : length ps ≤ i = omega arith in drop_of_length-le ps h

  -- ---- one turn

  turn_passes : (k i total : ℕ) (lent ends : List ℕ) → verdict_at i ≡ pass
      → list_from g t ps (suc k) i (Ok total, lent, ends) ≡ list_from g t ps k (suc i) (after g t (probe i) i total lent ends)
  unfolding list_from
  turn_passes k i total lent ends v = ap (list_from g t ps k (suc i)) (one_passes g t (probe i) i v total lent ends)

  pub err_stays : (k i : ℕ) (why : ListRefusal) (lent ends : List ℕ) → ◌≡◌ {A = Pass} (list_from g t ps k i (Err why, lent, ends)) (Err why, lent, ends)
  unfolding list_from list_one
  err_stays zero i why lent ends = refl
  err_stays (suc k) i why lent ends = err_stays k (suc i) why lent ends

  turn_refused : (k i total : ℕ) (lent ends : List ℕ) (why : Refusal) → verdict_at i ≡ refuse why
      → ◌≡◌ {A = Pass} (list_from g t ps (suc k) i (Ok total, lent, ends)) (Err (At why i), lent, ends)
  unfolding list_from
  turn_refused k i total lent ends why v =
      ap (list_from g t ps k (suc i)) (one_refused g t (probe i) i why v total lent ends) ∙ err_stays k (suc i) (At why i) lent ends

  -- ---- the first that is refused

  refused_from : (k i total : ℕ) (lent ends : List ℕ) (why : Refusal) (j : ℕ) → i + k ≡ length ps
      → first_refused g t i (drop i ps) ≡ some (why, j) → (list_from g t ps k i (Ok total, lent, ends)).0 ≡ Err (At why j)
  unfolding first_refused
  refused_from zero i total lent ends why j e f =
      let n : ◌≡◌ {A = Option (Refusal × ℕ)} none (some (why, j)) = sym (ap (first_refused g t i) (none_left i e)) ∙ f in
      let z : ◌≡◌ {A = ℕ} 0 1 = cc in absurd (not-suc-le-zero {n = 0} (omega arith))
  refused_from (suc k) i total lent ends why j e f =
      by_verdict (verdict_at i)
      (λ v.
      ap (λ (s : Pass). s.0) (turn_passes k i total lent ends v)
      ∙ refused_from k (suc i) _ _ _ why j (omega arith) (sym (refused_later i (omega arith) v) ∙ f))
      (λ u v.
      ap (λ (s : Pass). s.0) (turn_refused k i total lent ends u v)
      ∙ ap (λ (o : Option (Refusal × ℕ)). unless_at o (λ w m. Err (At w m)) (Ok 0)) (sym (refused_here i (omega arith) u v) ∙ f))

  pub pass_refused : (lent ends : List ℕ) (why : Refusal) (i : ℕ) → first_refused g t 0 ps ≡ some (why, i)
      → (list_all g t ps lent ends).0 ≡ Err (At why i)
  unfolding list_all
  pass_refused lent ends why i f = refused_from (length ps) 0 0 lent ends why i (omega arith) f

  -- ---- every list and every end

  counts_from : (k i total : ℕ) (lent ends : List ℕ) → i + k ≡ length ps → first_refused g t i (drop i ps) ≡ none
      → (list_from g t ps k i (Ok total, lent, ends)).0 ≡ Ok (total + length (lists_from i))
  unfolding list_from probes_write
  counts_from zero i total lent ends e f =
      let n : length (lists_from i) ≡ 0 = ap (λ (l : List Probe). length (probes_write g t l)) (none_left i e) in
      ap Ok (omega arith)
  counts_from (suc k) i total lent ends e f =
      let n = none_next i (omega arith) f in
      let w = probe_writes g t (probe i) in
      let l : length (lists_from i) ≡ length w + length (lists_from (suc i)) = ap length (lists_next i (omega arith)) ∙ length-append w (lists_from (suc i)) in
      ap (λ (s : Pass). s.0) (turn_passes k i total lent ends n.0)
      ∙ counts_from k (suc i) (total + length w) (keep_at total w lent) (set ends i (total + length w)) (omega arith) n.1
      ∙ ap Ok (omega arith)

  writes_from : (k i total : ℕ) (lent ends : List ℕ) → i + k ≡ length ps → first_refused g t i (drop i ps) ≡ none
      → total + length (lists_from i) ≤ length lent
      → (list_from g t ps k i (Ok total, lent, ends)).1 ≡ take total lent ++ over (lists_from i) (drop total lent)
  unfolding list_from probes_write
  writes_from zero i total lent ends e f r =
      sym (take-append-drop total lent) ∙ ap (λ (l : List Probe). take total lent ++ over (probes_write g t l) (drop total lent)) (sym (none_left i e))
  writes_from (suc k) i total lent ends e f r =
      let n = none_next i (omega arith) f in
      let w = probe_writes g t (probe i) in
      let x = lists_next i (omega arith) in
      let l : length (lists_from i) ≡ length w + length (lists_from (suc i)) = ap length x ∙ length-append w (lists_from (suc i)) in
      ap (λ (s : Pass). s.1) (turn_passes k i total lent ends n.0)
      ∙ writes_from k (suc i) (total + length w) (keep_at total w lent) (set ends i (total + length w)) (omega arith) n.1 (omega (arith, kept_length total w lent))
      ∙ ap (λ (m : List ℕ). take (total + length w) m ++ over (lists_from (suc i)) (drop (total + length w) m)) (kept_fits total w lent (omega arith))
      ∙ behind_more lent total w (lists_from (suc i)) (omega arith)
      ∙ ap (λ (m : List ℕ). take total lent ++ over m (drop total lent)) (sym x)

  ends_from_law : (k i total : ℕ) (lent ends : List ℕ) → i + k ≡ length ps → first_refused g t i (drop i ps) ≡ none → length ps ≤ length ends
      → (list_from g t ps k i (Ok total, lent, ends)).2 ≡ take i ends ++ over (ends_from total i) (drop i ends)
  unfolding list_from list_ends
  ends_from_law zero i total lent ends e f r =
      sym (take-append-drop i ends) ∙ ap (λ (l : List Probe). take i ends ++ over (list_ends g t total l) (drop i ends)) (sym (none_left i e))
  ends_from_law (suc k) i total lent ends e f r =
      let n = none_next i (omega arith) f in
      let w = probe_writes g t (probe i) in
      ap (λ (s : Pass). s.2) (turn_passes k i total lent ends n.0)
      ∙ ends_from_law k (suc i) (total + length w) (keep_at total w lent) (set ends i (total + length w)) (omega arith) n.1 (omega (arith, length-set ends i (total + length w)))
      ∙ front_more ends i (total + length w) (ends_from (total + length w) (suc i)) (omega arith)
      ∙ ap (λ (m : List ℕ). take i ends ++ over m (drop i ends)) (sym (ends_next total i (omega arith)))

  module _ (none_is : first_refused g t 0 ps ≡ none) (lent ends : List ℕ) where
    pub pass_counts : (list_all g t ps lent ends).0 ≡ Ok (length (probes_write g t ps))
    unfolding list_all
    pass_counts = counts_from (length ps) 0 0 lent ends (omega arith) none_is ∙ ap Ok (zero-add (length (probes_write g t ps)))

    pub pass_writes : length (probes_write g t ps) ≤ length lent → (list_all g t ps lent ends).1 ≡ over (probes_write g t ps) lent
    unfolding list_all
    pass_writes h = writes_from (length ps) 0 0 lent ends (omega arith) none_is (omega arith)

    pub pass_ends : length ps ≤ length ends → (list_all g t ps lent ends).2 ≡ over (list_ends g t 0 ps) ends
    unfolding list_all
    pass_ends h = ends_from_law (length ps) 0 0 lent ends (omega arith) none_is h

  -- ---- lengths

  lent_from : (k i : ℕ) (s : Pass) → length (list_from g t ps k i s).1 ≡ length s.1
  unfolding list_from
  lent_from zero i s = refl
  lent_from (suc k) i s = lent_from k (suc i) _ ∙ lent_length g t (probe i) i s.0 s.1 s.2

  ends_stay : (k i : ℕ) (s : Pass) → length (list_from g t ps k i s).2 ≡ length s.2
  unfolding list_from
  ends_stay zero i s = refl
  ends_stay (suc k) i s = ends_stay k (suc i) _ ∙ ends_length g t (probe i) i s.0 s.1 s.2

  pub pass_lent_length : (lent ends : List ℕ) → length (list_all g t ps lent ends).1 ≡ length lent
  unfolding list_all
  pass_lent_length lent ends = lent_from (length ps) 0 (Ok 0, lent, ends)

  pub pass_ends_length : (lent ends : List ℕ) → length (list_all g t ps lent ends).2 ≡ length ends
  unfolding list_all
  pass_ends_length lent ends = ends_stay (length ps) 0 (Ok 0, lent, ends)
