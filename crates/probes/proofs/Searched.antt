-- One search of a list: what the single search's promise says of its answer and of what was lent to it, and what it adds to the lists. Assumes nothing.
use mathlib.Core.Path.{◌≡◌, refl, sym, ap, subst, ◌∙◌}
use mathlib.Core.Bool.{Bool, true, false, not}
use mathlib.Core.List.{List, ◌++◌}
use Prim.Native.Nat.{ℕ, ◌-◌, ◌*◌, ◌≤◌, ◌<◌, min}
use native.Mathlib.Nat.{not-suc-le-zero}
use native.Mathlib.Omega.{arith}
use lib.Dec.{ltb}
use lib.ListN.{length, take, drop, take-append-drop}
use borrow.Author.Tests.{lt-ltb, le-ltb}
use Rattle.std.specs.Prelude.{Ok, Err, Result}
use Rattle.laws.specs.Lists.{over}
use Rattle.laws.proofs.Tests.{by_le}
use Rattle.rules.specs.Sizes.{most_radius, bad_sizes, bad_point}
use Rattle.rules.specs.Tables.{Tables, bad_lengths, good_runs}
use Rattle.rules.specs.Refusals.{Paper, paper_answer, Verdict, pass, refuse, judge}
use Rattle.rules.specs.Search.{read_runs, radius_hits, hit_numbers, search_verdict, searches}
use Rattle.rules.specs.Probes.{point_of, probe_writes}
use Rattle.rules.specs.declared.Grid.{Grid}
use Rattle.rules.specs.declared.Probe.{Probe}
use Rattle.rules.specs.declared.Refusal.{Refusal}
use Rattle.rules.specs.declared.Refusal.TheVariants.{Sizes, Lengths, Place, Radius, Damage, Room}
use Rattle.rules.specs.declared.ListRefusal.TheVariants.{At}
use Rattle.rules.proofs.Papers.{answers_same}
use Rattle.rules.proofs.FewHits.{writes_count}
use Rattle.rules.proofs.FirstRefused.{by_verdict}
use Rattle.probes.specs.Listing.{Listed, keep_at, list_at, counted_refused, counted}
use Rattle.probes.proofs.Behind.{tail_part, tail_back, place_fits, place_lacks}

pair : {A B : Type 0} {a c : A} {b d : B} → a ≡ c → b ≡ d → ◌≡◌ {A = A × B} (a, b) (c, d)
pair e f = cc

-- ---- a search's verdict

-- counted, such a refusal is the list's
abbrev Handed : ℕ → Refusal → Type 0
Handed i why = ◌≡◌ {A = Listed} (counted_refused why i) (Err (At why i))

module _ (i : ℕ) where
  handed_judge : (b : Bool) (r : Refusal) (v : Verdict) → Handed i r → ((why : Refusal) → v ≡ refuse why → Handed i why)
      → (why : Refusal) → judge b r v ≡ refuse why → Handed i why
  handed_judge true r v h f why e = let z : r ≡ why = cc in let P : Refusal → Type 0 = Handed i in subst P z h
  handed_judge false r v h f why e = f why e

  handed_pass : (why : Refusal) → pass ≡ refuse why → Handed i why
  handed_pass why e = let z : ◌≡◌ {A = ℕ} 0 1 = cc in absurd (not-suc-le-zero {n = 0} (omega arith))

module _ (g : Grid) (t : Tables) (p : Probe) where
  abbrev verdict : Verdict
  verdict = search_verdict g t (point_of p) p.r

  abbrev written : List ℕ
  written = probe_writes g t p

  -- it is never for room
  refused_handed : (i : ℕ) (why : Refusal) → verdict ≡ refuse why → Handed i why
  unfolding search_verdict counted_refused
  refused_handed i =
      handed_judge i (bad_sizes g) Sizes _ refl
      (handed_judge i (bad_lengths g t) Lengths _ refl
      (handed_judge i (bad_point g (point_of p)) Place _ refl
      (handed_judge i (ltb most_radius p.r) Radius _ refl
      (handed_judge i (not (good_runs g t (read_runs g (point_of p) p.r))) Damage pass refl (handed_pass i)))))

  -- ---- the answer, and what was lent

  module _ (out : List ℕ) (a : Result ℕ Refusal) (out' : List ℕ) (e : ◌≡◌ {A = Paper × List ℕ} (paper_answer a, out') (searches g t (point_of p) p.r out)) where
    is : (b : Result ℕ Refusal) (l : List ℕ) → ◌≡◌ {A = Paper × List ℕ} (searches g t (point_of p) p.r out) (paper_answer b, l) → (a ≡ b) × (out' ≡ l)
    is b l f = (answers_same a b (ap (λ (s : Paper × List ℕ). s.0) (e ∙ f)), ap (λ (s : Paper × List ℕ). s.1) (e ∙ f))

    was_refused : (why : Refusal) → verdict ≡ refuse why → (a ≡ Err why) × (out' ≡ out)
    unfolding searches paper_answer
    was_refused why v = is (Err why) out (rw v)

    found_none : verdict ≡ pass → length out < length written → (a ≡ Err (Room (length written))) × (out' ≡ out)
    unfolding searches paper_answer probe_writes
    found_none v h = is (Err (Room (length written))) out (rw (v, lt-ltb (length out) (length written) h))

    found_room : verdict ≡ pass → length written ≤ length out → (a ≡ Ok (length (radius_hits g t (point_of p) p.r))) × (out' ≡ over written out)
    unfolding searches paper_answer probe_writes
    found_room v h = is (Ok (length (radius_hits g t (point_of p) p.r))) (over written out) (rw (v, le-ltb (length out) (length written) h))

    counts : length written ≡ hit_numbers * length (radius_hits g t (point_of p) p.r)
    unfolding probe_writes
    counts = writes_count g t.reg (point_of p) (radius_hits g t (point_of p) p.r)

-- ---- what it adds to the lists

module _ (g : Grid) (t : Tables) (p : Probe) (i total : ℕ) (lent : List ℕ) where
  pub at_passes : search_verdict g t (point_of p) p.r ≡ pass
      → ◌≡◌ {A = Listed × List ℕ} (list_at g t p i total lent) (Ok (length (probe_writes g t p)), keep_at total (probe_writes g t p) lent)
  unfolding list_at
  at_passes v = rw v

  pub at_refused : (why : Refusal) → search_verdict g t (point_of p) p.r ≡ refuse why
      → ◌≡◌ {A = Listed × List ℕ} (list_at g t p i total lent) (Err (At why i), lent)
  unfolding list_at
  at_refused why v = rw v

  module _ (at : ℕ) (f : at ≡ min (length lent) total) (a : Result ℕ Refusal) (l : List ℕ)
      (e : ◌≡◌ {A = Paper × List ℕ} (paper_answer a, l) (searches g t (point_of p) p.r (drop at lent))) where
    -- the answer, counted
    counted_as : {b : Result ℕ Refusal} → a ≡ b → counted a i ≡ counted b i
    counted_as q = ap (λ (b : Result ℕ Refusal). counted b i) q

    step : ◌≡◌ {A = Listed × List ℕ} (counted a i, take at lent ++ l) (list_at g t p i total lent)
    unfolding counted counted_refused
    step =
        by_verdict (search_verdict g t (point_of p) p.r)
        (λ v.
        by_le (length (probe_writes g t p)) (length (drop at lent))
        (λ h.
        let r = found_room g t p (drop at lent) a l e v h in
        pair
        (counted_as r.0 ∙ ap Ok (sym (counts g t p (drop at lent) a l e)))
        (ap (λ (m : List ℕ). take at lent ++ m) r.1 ∙ place_fits total (probe_writes g t p) lent at f h)
        ∙ sym (at_passes v))
        (λ h.
        let r = found_none g t p (drop at lent) a l e v h in
        pair
        (counted_as r.0)
        (ap (λ (m : List ℕ). take at lent ++ m) r.1 ∙ take-append-drop at lent ∙ place_lacks total (probe_writes g t p) lent at f h)
        ∙ sym (at_passes v)))
        (λ why v.
        let r = was_refused g t p (drop at lent) a l e why v in
        pair
        (counted_as r.0 ∙ refused_handed g t p i why v)
        (ap (λ (m : List ℕ). take at lent ++ m) r.1 ∙ take-append-drop at lent)
        ∙ sym (at_refused why v))

-- what is lent to the search is a part up to the end, and is put back
pub searched : (g : Grid) (t : Tables) (p : Probe) (i total : ℕ) (lent : List ℕ) (at : ℕ) → at ≡ min (length lent) total
    → (a : Result ℕ Refusal) (l : List ℕ)
    → ◌≡◌ {A = Paper × List ℕ} (paper_answer a, l) (searches g t (point_of p) p.r (take (length lent - at) (drop at lent)))
    → (d : Listed) → d ≡ counted a i
    → ◌≡◌ {A = Listed × List ℕ} (d, take at lent ++ (l ++ drop (length lent - at) (drop at lent))) (list_at g t p i total lent)
searched g t p i total lent at f a l e d n =
    let whole : ◌≡◌ {A = Paper × List ℕ} (paper_answer a, l) (searches g t (point_of p) p.r (drop at lent)) =
    e ∙ ap (searches g t (point_of p) p.r) (tail_part lent at) in
    pair n (tail_back lent at l) ∙ step g t p i total lent at f a l whole
