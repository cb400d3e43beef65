-- All of a list of searches, from its two passes: what each judged and listed, and what the promise says then. Assumes nothing.
use mathlib.Core.Path.{◌≡◌, refl, sym, ap, ◌∙◌}
use mathlib.Core.Bool.{Bool, true, false}
use mathlib.Core.List.{List, ◌++◌}
use mathlib.Core.Option.{Option, none, some}
use Prim.Native.Nat.{ℕ, ◌≤◌}
use native.Mathlib.Omega.{arith}
use lib.ListN.{length, take, drop}
use lib.Seq.{take_at}
use borrow.Author.Tests.{le-ltb}
use Rattle.std.specs.Prelude.{Result, Ok, Err}
use Rattle.laws.specs.Lists.{over}
use Rattle.laws.proofs.Tests.{clash}
use Rattle.rules.specs.Tables.{Tables}
use Rattle.rules.specs.Refusals.{Paper, paper_listed, Verdict, pass, refuse, unless}
use Rattle.rules.specs.Probes.{probes_write, list_ends, probes_verdict, first_refused, lists_room, searches_all}
use Rattle.rules.specs.declared.Grid.{Grid}
use Rattle.rules.specs.declared.Probe.{Probe}
use Rattle.rules.specs.declared.Refusal.{Refusal}
use Rattle.rules.specs.declared.Refusal.TheVariants.{Sizes}
use Rattle.rules.specs.declared.ListRefusal.{ListRefusal}
use Rattle.rules.specs.declared.ListRefusal.TheVariants.{At, Whole}
use Rattle.rules.proofs.FirstRefused.{by_verdict}
use Rattle.rules.proofs.Probes.{length_ends}
use Rattle.probes.specs.Listing.{Listed, Pass, so_far_of, list_all}
use Rattle.probes.proofs.Passes.{pass_refused, pass_counts, pass_writes, pass_ends, pass_lent_length, pass_ends_length}
use Rattle.probes.proofs.Turns.{is_listed}

by_option {ℓ} : {X : Type ℓ} (o : Option (Refusal × ℕ)) → (o ≡ none → X) → ((why : Refusal) (i : ℕ) → o ≡ some (why, i) → X) → X
by_option none f h = f refl
by_option (some w) f h = h w.0 w.1 refl

-- why a list is refused
abbrev refusal_of : Listed → ListRefusal
refusal_of (Ok n) = Whole Sizes
refusal_of (Err why) = why

-- what a check of the list as a whole answers
abbrev Judged : Type 0
Judged = Result (Unit {0}) ListRefusal

abbrev is_pass : Judged → Bool
is_pass (Ok n) = true
is_pass (Err why) = false

abbrev refusal_told : Judged → ListRefusal
refusal_told (Ok n) = Whole Sizes
refusal_told (Err why) = why

-- such a check says its verdict
module _ (v : Verdict) (f : Refusal → ListRefusal) (a : Judged) (e : a ≡ unless v (λ why. Err (f why)) (Ok tt)) where
  told_err : (why : ListRefusal) → a ≡ Err why → (w : Refusal) × (v ≡ refuse w) × (f w ≡ why)
  told_err why k =
      by_verdict v
      (λ r. clash (ap is_pass (sym (rw r at e) ∙ k)))
      (λ w r. (w, r, ap refusal_told (sym (rw r at e) ∙ k)))

  told_ok : (u : Unit {0}) → a ≡ Ok u → v ≡ pass
  told_ok u k = by_verdict v (λ r. r) (λ w r. clash (ap is_pass (sym k ∙ rw r at e)))

three : {x y : Paper} {a b c d : List ℕ} → x ≡ y → a ≡ b → c ≡ d → ◌≡◌ {A = Paper × List ℕ × List ℕ} (x, a, c) (y, b, d)
three e f h = cc

module _ (g : Grid) (t : Tables) (ps : List Probe) (out ends : List ℕ) where
  abbrev all : List ℕ
  all = probes_write g t ps

  abbrev places : List ℕ
  places = list_ends g t 0 ps

  abbrev Promise : Listed → List ℕ → List ℕ → Type 0
  Promise a o e = ◌≡◌ {A = Paper × List ℕ × List ℕ} (paper_listed a, o, e) (searches_all g t ps out ends)

  -- refused so, nothing is written
  silent : {w why : ListRefusal} → w ≡ why → Promise (Err w) out ends → Promise (Err why) out ends
  silent e p = ap (λ (x : ListRefusal). (paper_listed (Err x), out, ends)) (sym e) ∙ p

  module _ (j : Judged) (judged : j ≡ unless (probes_verdict g t (length ps)) (λ why. Err (At why 0)) (Ok tt)) where
    -- ---- 1 and 2

    all_judged : (why : Refusal) → probes_verdict g t (length ps) ≡ refuse why → Promise (Err (At why 0)) out ends
    unfolding searches_all
    all_judged why v = rw v

    pub judged_err : (why : ListRefusal) → j ≡ Err why → Promise (Err why) out ends
    judged_err why k = let w = told_err _ _ j judged why k in silent w.2 (all_judged w.0 w.1)

    module _ (u : Unit {0}) (ok : j ≡ Ok u) (lent₀ ends₀ : List ℕ) (a : Listed) (lent₁ ends₁ : List ℕ)
        (p : ◌≡◌ {A = Pass} (a, lent₁, ends₁) (list_all g t ps lent₀ ends₀)) where
      -- ---- the first pass

      v : probes_verdict g t (length ps) ≡ pass
      v = told_ok _ _ j judged u ok

      answered : {b : Listed} → (list_all g t ps lent₀ ends₀).0 ≡ b → a ≡ b
      answered e = ap (λ (s : Pass). s.0) p ∙ e

      one_judged : (why : Refusal) (i : ℕ) → first_refused g t 0 ps ≡ some (why, i) → Promise (Err (At why i)) out ends
      unfolding searches_all
      one_judged why i f = let r = v in rw (r, f)

      -- a refusal is the first probe's
      pub pass_err : (why : ListRefusal) → a ≡ Err why → Promise (Err why) out ends
      pass_err why e =
          by_option (first_refused g t 0 ps)
          (λ f. clash (ap is_listed (sym (answered (pass_counts g t ps f lent₀ ends₀)) ∙ e)))
          (λ w i f. silent (ap refusal_of (sym (answered (pass_refused g t ps lent₀ ends₀ w i f)) ∙ e)) (one_judged w i f))

      module _ (total : ℕ) (listed : a ≡ Ok total) where
        -- else none is refused, and the total is that of all lists
        n : (first_refused g t 0 ps ≡ none) × (total ≡ length all)
        n =
            by_option (first_refused g t 0 ps)
            (λ f. (f, ap so_far_of (sym listed ∙ answered (pass_counts g t ps f lent₀ ends₀))))
            (λ w i f. clash (ap is_listed (sym listed ∙ answered (pass_refused g t ps lent₀ ends₀ w i f))))

        -- ---- room

        one_room : (why : Refusal) → lists_room total (length ps) out ends ≡ refuse why → Promise (Err (Whole why)) out ends
        unfolding searches_all
        one_room why e = let x = v in let f = n.0 in let r = ap (λ (k : ℕ). lists_room k (length ps) out ends) (sym n.1) ∙ e in rw (x, f, r)

        pub room_err : (b : Judged) → b ≡ unless (lists_room total (length ps) out ends) (λ why. Err (Whole why)) (Ok tt)
            → (why : ListRefusal) → b ≡ Err why → Promise (Err why) out ends
        room_err b e why k = let w = told_err _ _ b e why k in silent w.2 (one_room w.0 w.1)

        module _ (r : (total ≤ length out) × (length ps ≤ length ends)) where
          all_accepted : Promise (Ok total) (over all out) (over places ends)
          unfolding searches_all lists_room
          all_accepted =
              let x = v in
              let f = n.0 in
              let k = n.1 in
              let h : length all ≤ length out = omega arith in
              rw (x, f, le-ltb (length out) (length all) h, le-ltb (length ends) (length ps) r.1, k)

          -- ---- the two ways to write

          -- what the first pass kept, where it kept all
          pub copied : total ≤ length lent₁ → length ps ≤ length ends₁ → (w e : List ℕ) → w ≡ take total lent₁ → e ≡ take (length ps) ends₁
              → Promise (Ok total) (w ++ drop total out) (e ++ drop (length ps) ends)
          copied h k w e wk ek =
              let l₁ = ap (λ (s : Pass). s.1) p in
              let e₁ = ap (λ (s : Pass). s.2) p in
              let m : length lent₁ ≡ length lent₀ = ap length l₁ ∙ pass_lent_length g t ps lent₀ ends₀ in
              let j : length ends₁ ≡ length ends₀ = ap length e₁ ∙ pass_ends_length g t ps lent₀ ends₀ in
              let x : w ≡ all =
              wk ∙ ap (take total) (l₁ ∙ pass_writes g t ps n.0 lent₀ ends₀ (omega (arith, n.1))) ∙ take_at all (drop (length all) lent₀) total (sym n.1) in
              let q : length places ≡ length ps = length_ends g t 0 ps in
              let y : e ≡ places =
              ek ∙ ap (take (length ps)) (e₁ ∙ pass_ends g t ps n.0 lent₀ ends₀ (omega arith)) ∙ take_at places (drop (length places) ends₀) (length ps) q in
              three refl
              (ap (λ (l : List ℕ). l ++ drop total out) x ∙ ap (λ (d : ℕ). all ++ drop d out) n.1)
              (ap (λ (l : List ℕ). l ++ drop (length ps) ends) y ∙ ap (λ (d : ℕ). places ++ drop d ends) (sym q))
              ∙ all_accepted

          -- else the pass once more, over the output
          pub again : (b : Listed) (out₁ places₁ : List ℕ) → ◌≡◌ {A = Pass} (b, out₁, places₁) (list_all g t ps out ends) → Promise b out₁ places₁
          again b out₁ places₁ s =
              let c = ap (λ (x : Pass). x.0) s ∙ pass_counts g t ps n.0 out ends ∙ ap Ok (sym n.1) in
              let w = ap (λ (x : Pass). x.1) s ∙ pass_writes g t ps n.0 out ends (omega (arith, n.1)) in
              let e = ap (λ (x : Pass). x.2) s ∙ pass_ends g t ps n.0 out ends r.1 in
              three (ap paper_listed c) w e ∙ all_accepted
