-- The loop over a tile's classes: neighbouring runs joined to one part that is held back, and what is left of the tile. Assumes nothing.
use mathlib.Core.Path.{◌≡◌, refl, sym, ap, ap₂, ◌∙◌}
use mathlib.Core.Bool.{Bool, true, false, not, ◌&&◌, ◌||◌, and-false, and-true}
use mathlib.Core.List.{List, [], ◌∷◌, ◌++◌, append-nil}
use Prim.Native.Nat.{ℕ, ◌-◌, ◌≤◌}
use native.Mathlib.Omega.{arith}
use lib.Dec.{ltb}
use lib.ListN.{length}
use borrow.Author.Tests.{ltb-false}
use Rattle.std.specs.Prelude.{Some}
use Rattle.laws.specs.Lists.{each, part}
use Rattle.laws.proofs.Lists.{filter_append, each_append}
use Rattle.laws.proofs.Parts.{all_append, part_joined}
use Rattle.laws.proofs.Tests.{neither}
use Rattle.rules.specs.Sizes.{most_entries}
use Rattle.rules.specs.Register.{bad_entry}
use Rattle.rules.specs.Tables.{Tables, run_start, run_end, run_at, bad_ends, good_run, good_runs}
use Rattle.rules.specs.Search.{is_hit}
use Rattle.rules.specs.declared.Grid.{Grid}
use Rattle.rules.specs.declared.Point.{Point}
use Rattle.tables.specs.Entries.{good_entries}
use Rattle.search.specs.Reading.{hits_in, hits_of, entries_in, good_behind, Lies, Holds, JudgedEntries}
use Rattle.search.specs.declared.runs.Held.{Held}
use Rattle.search.proofs.Left.{left_all, left_same, left_as, left_on}

abbrev pub held : ℕ → ℕ → ℕ → Held
held b p c = record { part = record { begin = b; past = p }; count = c }

-- ---- runs one behind the other

module _ (g : Grid) (t : Tables) (q : Point) (r : ℕ) where
  pub hits_of_append : (k l : List ℕ) → hits_of g t q r (k ++ l) ≡ hits_of g t q r k ++ hits_of g t q r l
  hits_of_append k l =
      ap (hits_in g t.reg q r) (each_append (run_at t) k l) ∙ filter_append (is_hit g t.reg q r) (each (run_at t) k) (each (run_at t) l)

  -- ---- one run, behind a part that is held back

  module _ (k a e : ℕ) (ea : a ≡ run_start t.starts k) (ee : e ≡ run_end t.starts k) where
    run_is : each (run_at t) (k ∷ []) ≡ part t.entries a e
    unfolding run_at
    run_is = append-nil (run_at t k) ∙ ap₂ (part t.entries) (sym ea) (sym ee)

    pub run_damaged : bad_ends (length t.entries) a e ≡ true → good_runs g t (k ∷ []) ≡ false
    unfolding good_runs good_run
    run_damaged b = rw (← ea, ← ee, b)

    run_good : bad_ends (length t.entries) a e ≡ false → good_runs g t (k ∷ []) ≡ good_entries g t.reg (part t.entries a e)
    unfolding good_runs good_run run_at
    run_good b = rw (← ea, ← ee, b) (and-true (good_entries g t.reg (part t.entries a e)))

    good_ends : bad_ends (length t.entries) a e ≡ false → (a ≤ e) × (e ≤ length t.entries) × (e ≤ most_entries)
    unfolding bad_ends
    good_ends b =
        let u = neither (ltb e a || ltb (length t.entries) e) (ltb most_entries e) b in
        let v = neither (ltb e a) (ltb (length t.entries) e) u.0 in
        (ltb-false _ _ v.0, ltb-false _ _ v.1, ltb-false _ _ u.1)

    module _ (h : Held) where
      abbrev before : List ℕ
      before = entries_in t.entries h.part

      -- its ends are damaged
      pub hold_damaged : bad_ends (length t.entries) a e ≡ true → good_behind g t (k ∷ []) h ≡ false
      hold_damaged b = rw (run_damaged b) (and-false (good_entries g t.reg before))

      -- it begins where the part ends, and joins it
      pub hold_joined : (lent : List ℕ) → bad_ends (length t.entries) a e ≡ false → Lies t.entries h.part → a ≡ h.part.past
          → Holds g t q r (k ∷ []) h lent (Some (held h.part.begin e h.count)) lent
      hold_joined lent b w s =
          let z = good_ends b in
          let o = w.ordered in
          let j : before ++ part t.entries a e ≡ part t.entries h.part.begin e =
          ap (λ (n : ℕ). before ++ part t.entries n e) s ∙ part_joined t.entries h.part.begin h.part.past e o (omega arith) in
          record {
            left = left_same h.count lent
                (ap (λ (x : Bool). good_entries g t.reg before && x) (run_good b) ∙ sym (all_append (λ i. not (bad_entry g t.reg i)) before (part t.entries a e)) ∙ ap (good_entries g t.reg) j)
                (ap (λ (l : List ℕ). hits_in g t.reg q r before ++ hits_in g t.reg q r l) run_is ∙ sym (filter_append (is_hit g t.reg q r) before (part t.entries a e)) ∙ ap (hits_in g t.reg q r) j);
            lies = record { ordered = omega arith; inside = z.1 };
            few = omega arith;
          }

      -- the part is read, and the run is held back in its place
      pub hold_next : (lent₀ lent : List ℕ) → bad_ends (length t.entries) a e ≡ false → (c : ℕ)
          → JudgedEntries g t.reg q r before (h.part.past - h.part.begin) h.count lent₀ (Some c) lent
          → Holds g t q r (k ∷ []) h lent₀ (Some (held a e c)) lent
      hold_next lent₀ lent b c j =
          let z = good_ends b in
          record {
            left = left_as (left_on (good_runs g t (k ∷ [])) (hits_of g t q r (k ∷ [])) (left_all _ _ h.count lent₀) refl refl j.left)
                (run_good b) (ap (hits_in g t.reg q r) run_is);
            lies = record { ordered = z.0; inside = z.1 };
            few = omega (arith, j.few);
          }
