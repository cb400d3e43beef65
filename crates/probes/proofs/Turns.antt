-- A pass, turn by turn: what is left of it from index i on. Assumes nothing.
use mathlib.Core.Path.{◌≡◌, sym, ap, ◌∙◌}
use mathlib.Core.Bool.{Bool, true, false}
use mathlib.Core.List.{List}
use Prim.Native.Nat.{ℕ, suc, ◌+◌, ◌-◌, ◌≤◌, ◌<◌}
use native.Mathlib.Omega.{arith}
use lib.ListN.{length, get_or, set}
use Rattle.std.specs.Prelude.{Ok, Err}
use Rattle.laws.proofs.Tests.{clash}
use Rattle.rules.specs.Tables.{Tables}
use Rattle.rules.specs.Refusals.{Verdict}
use Rattle.rules.specs.Search.{search_verdict}
use Rattle.rules.specs.Probes.{point_of, probe_writes}
use Rattle.rules.specs.declared.ListRefusal.{ListRefusal}
use Rattle.rules.proofs.FewHits.{few_written}
use Rattle.rules.proofs.FirstRefused.{by_verdict}
use Rattle.rules.specs.declared.Grid.{Grid}
use Rattle.rules.specs.declared.Probe.{Probe}
use Rattle.probes.specs.Listing.{Listed, Pass, added, list_one, list_at, so_far_of, list_most, no_probe, list_from, list_all}
use Rattle.probes.proofs.Passes.{err_stays}
use Rattle.probes.proofs.Searched.{at_passes, at_refused}

-- whether numbers are listed
abbrev pub is_listed : Listed → Bool
is_listed (Ok n) = true
is_listed (Err why) = false

module _ (g : Grid) (t : Tables) (ps : List Probe) where
  abbrev pub count : ℕ
  count = length ps

  -- what the probes from index i on make of what is listed before them
  abbrev pub rest_from : ℕ → Pass → Pass
  rest_from i s = list_from g t ps (count - i) i s

  pub rest_begin : (lent ends : List ℕ) → rest_from 0 (Ok 0, lent, ends) ≡ list_all g t ps lent ends
  unfolding list_all
  rest_begin lent ends = let e : count - 0 ≡ count = omega arith in ap (λ (k : ℕ). list_from g t ps k 0 (Ok 0, lent, ends)) e

  pub rest_step : (i : ℕ) (s : Pass) → i < count → rest_from (i + 1) (list_one g t (get_or ps i no_probe) i s.0 s.1 s.2) ≡ rest_from i s
  unfolding list_from
  rest_step i s h =
      let e : count - i ≡ suc (count - (i + 1)) = omega arith in
      let f : i + 1 ≡ suc i = omega arith in
      let s' : Pass = list_one g t (get_or ps i no_probe) i s.0 s.1 s.2 in
      ap (λ (k : ℕ). list_from g t ps (count - (i + 1)) k s') f ∙ sym (ap (λ (k : ℕ). list_from g t ps k i s) e)

  pub rest_end : (i : ℕ) (s : Pass) → count ≤ i → rest_from i s ≡ s
  unfolding list_from
  rest_end i s h = let e : count - i ≡ 0 = omega arith in ap (λ (k : ℕ). list_from g t ps k i s) e

  -- ---- one turn, by what its search told

  module _ (i total : ℕ) (lent ends : List ℕ) (more : Listed) (lent' : List ℕ)
      (e : ◌≡◌ {A = Listed × List ℕ} (more, lent') (list_at g t (get_or ps i no_probe) i total lent)) where
    abbrev probe : Probe
    probe = get_or ps i no_probe

    abbrev verdict : Verdict
    verdict = search_verdict g t (point_of probe) probe.r

    -- it lists no more than a list can have
    pub few_listed : (n : ℕ) → more ≡ Ok n → n ≤ list_most
    few_listed n o =
        by_verdict verdict
        (λ v.
        let r : n ≡ length (probe_writes g t probe) = ap so_far_of (sym o ∙ ap (λ (s : Listed × List ℕ). s.0) (e ∙ at_passes g t probe i total lent v)) in
        omega (arith, r, few_written g t probe v))
        (λ why v. clash (ap is_listed (sym o ∙ ap (λ (s : Listed × List ℕ). s.0) (e ∙ at_refused g t probe i total lent why v))))

    added_is : added total i ends more lent' ≡ list_one g t probe i (Ok total) lent ends
    unfolding list_one
    added_is = ap (λ (s : Listed × List ℕ). added total i ends s.0 s.1) e

    turn : i < count → rest_from (i + 1) (added total i ends more lent') ≡ rest_from i (Ok total, lent, ends)
    turn h = ap (λ (s : Pass). rest_from (i + 1) s) added_is ∙ rest_step i (Ok total, lent, ends) h

    pub rest_listed : (n : ℕ) → more ≡ Ok n → i < count → rest_from (i + 1) (Ok (total + n), lent', set ends i (total + n)) ≡ rest_from i (Ok total, lent, ends)
    rest_listed n o h = ap (λ (x : Listed). rest_from (i + 1) (added total i ends x lent')) (sym o) ∙ turn h

    -- the first refusal is the whole list's
    pub rest_refused : (why : ListRefusal) → more ≡ Err why → i < count → ◌≡◌ {A = Pass} (Err why, lent', ends) (rest_from i (Ok total, lent, ends))
    rest_refused why o h =
        sym (err_stays g t ps (count - (i + 1)) (i + 1) why lent' ends)
        ∙ ap (λ (x : Listed). rest_from (i + 1) (added total i ends x lent')) (sym o)
        ∙ turn h
