-- Refusals 1, 2 and 3: the verdict as it is reached, what it says of the register where it passes, and that what comes after it changes no refusal.
-- Assumes nothing.
use mathlib.Core.Path.{◌≡◌, refl, sym, ap, ◌∙◌}
use mathlib.Core.Bool.{Bool, true, false, not}
use mathlib.Core.List.{List, [], ◌∷◌, Memᴰ}
use Prim.Native.Nat.{ℕ, ◌+◌, ◌%◌, ◌≤◌, ◌<◌}
use native.Mathlib.Nat.{div-lt_iff_lt-mul}
use native.Mathlib.Omega.{arith}
use lib.Dec.{ltb, eqb}
use lib.ListN.{length}
use borrow.Author.Tests.{eqb-true, ltb-false, not-false, lt-ltb, le-ltb}
use Rattle.std.specs.Prelude.{Option, Some, None, Ok, Err}
use Rattle.laws.specs.Lists.{over}
use Rattle.laws.proofs.Tests.{clash, neither}
use Rattle.laws.proofs.Numbers.{div_rises}
use Rattle.laws.proofs.Members.{mem_filter}
use Rattle.laws.proofs.Ranges.{mem_from}
use Rattle.rules.specs.Sizes.{bad_sizes, tile_count, column}
use Rattle.rules.specs.Register.{count, footprints, bad_register, bad_footprint, bad_footprints}
use Rattle.rules.specs.Tables.{tables, runs, bad_starts, bad_lengths, built_entries, built_starts}
use Rattle.rules.specs.Refusals.{Verdict, pass, refuse, judge, judge_footprints, judge_room, paper_answer, paper_checked}
use Rattle.rules.specs.Build.{register_verdict, build_verdict, builds, is_built, checks}
use Rattle.rules.specs.declared.Grid.{Grid}
use Rattle.rules.specs.declared.Refusal.{Refusal}
use Rattle.rules.specs.declared.Refusal.TheVariants.{Sizes, Lengths, Footprint, Room}
use Rattle.rules.proofs.Good.{good_sizes, Accepted, good_footprint}
use Rattle.tables.specs.First.{first_of}
use Rattle.tables.proofs.Verdicts.{pass_not_refuse, judge_pass}
use Rattle.index.specs.Tiles.{Lies}

-- ---- the first bad footprint

abbrev is_one : Option ℕ → Bool
is_one (Some i) = true
is_one None = false

abbrev the_one : Option ℕ → ℕ
the_one (Some i) = i
the_one None = 0

some_none : {i : ℕ} → Some i ≡ None → ⊥
some_none e = clash (ap is_one e)

same_some : {i j : ℕ} → Some i ≡ Some j → i ≡ j
same_some e = ap the_one e

first_refused_law : (l : List ℕ) (i : ℕ) (v : Verdict) → Some i ≡ first_of l → refuse (Footprint i) ≡ judge_footprints l v
first_refused_law [] i v e = absurd (some_none e)
first_refused_law (j ∷ l) i v e = ap (λ (k : ℕ). refuse (Footprint k)) (same_some e)

first_none : (l : List ℕ) → None ≡ first_of l → l ≡ []
first_none [] e = refl
first_none (j ∷ l) e = absurd (some_none (sym e))

bad_below : (g : Grid) (reg : List ℕ) (j : ℕ) → Memᴰ j (bad_footprints g reg) → j < count reg
unfolding bad_footprints footprints
bad_below g reg j m = let r = mem_from 0 (count reg) (mem_filter (bad_footprint g reg) _ m).0 in omega arith

-- what is found is bad, so it is a footprint
found_below : (g : Grid) (reg : List ℕ) (i : ℕ) → Some i ≡ first_of (bad_footprints g reg) → i < count reg
found_below g reg i e = go (bad_footprints g reg) (bad_below g reg) e
  where
    go : (l : List ℕ) → ((j : ℕ) → Memᴰ j l → j < count reg) → Some i ≡ first_of l → i < count reg
    go [] b e = absurd (some_none e)
    go (j ∷ l) b e = let k = b j (Memᴰ.head refl) in let s = same_some e in omega arith

module _ (g : Grid) (reg starts : List ℕ) (sizes : bad_sizes g ≡ false) (lengths : bad_lengths g (tables reg starts []) ≡ false) where
  pub few_judged : count reg ≤ 65536
  unfolding bad_lengths bad_register
  few_judged = ltb-false 65536 (count reg) (neither (not (eqb (length reg % 4) 0)) (ltb 65536 (count reg)) (neither (bad_register reg) (bad_starts g starts) lengths).0).1

  pub found_few : (i : ℕ) → Some i ≡ first_of (bad_footprints g reg) → i < 65536
  found_few i e = omega (arith, few_judged, found_below g reg i e)

  pub refused_footprint : (i : ℕ) (v : Verdict) → Some i ≡ first_of (bad_footprints g reg) → refuse (Footprint i) ≡ register_verdict g reg starts v
  unfolding register_verdict
  refused_footprint i v e = rw (sizes, lengths) (first_refused_law (bad_footprints g reg) i v e)

  pub refused_nothing : (v : Verdict) → None ≡ first_of (bad_footprints g reg) → v ≡ register_verdict g reg starts v
  unfolding register_verdict
  refused_nothing v e = rw (sizes, lengths, first_none (bad_footprints g reg) e)

-- ---- what comes after

-- a refusal stays what it is
judge_carries : (b : Bool) (x : Refusal) (v w : Verdict) (r : Refusal) → (v ≡ refuse r → w ≡ refuse r) → judge b x v ≡ refuse r → judge b x w ≡ refuse r
judge_carries true x v w r f e = e
judge_carries false x v w r f e = f e

footprints_carry : (l : List ℕ) (w : Verdict) (r : Refusal) → judge_footprints l pass ≡ refuse r → judge_footprints l w ≡ refuse r
footprints_carry [] w r e = absurd (pass_not_refuse r (sym e))
footprints_carry (i ∷ l) w r e = e

footprints_pass : (l : List ℕ) → judge_footprints l pass ≡ pass → l ≡ []
footprints_pass [] e = refl
footprints_pass (i ∷ l) e = absurd (pass_not_refuse (Footprint i) e)

module _ (g : Grid) (reg starts : List ℕ) where
  pub verdict_refused : (v : Verdict) (r : Refusal) → register_verdict g reg starts pass ≡ refuse r → register_verdict g reg starts v ≡ refuse r
  unfolding register_verdict
  verdict_refused v r e =
      judge_carries (bad_sizes g) Sizes _ _ r
      (judge_carries (bad_lengths g (tables reg starts [])) Lengths _ _ r (footprints_carry (bad_footprints g reg) v r)) e

  module _ (passed : register_verdict g reg starts pass ≡ pass) where
    sizes_pass : (bad_sizes g ≡ false) × (judge (bad_lengths g (tables reg starts [])) Lengths (judge_footprints (bad_footprints g reg) pass) ≡ pass)
    unfolding register_verdict
    sizes_pass = judge_pass (bad_sizes g) Sizes _ passed

    lengths_pass : (bad_lengths g (tables reg starts []) ≡ false) × (judge_footprints (bad_footprints g reg) pass ≡ pass)
    lengths_pass = judge_pass (bad_lengths g (tables reg starts [])) Lengths _ sizes_pass.1

    -- what comes after decides
    pub verdict_passed : (v : Verdict) → register_verdict g reg starts v ≡ v
    unfolding register_verdict
    verdict_passed v = rw (sizes_pass.0, lengths_pass.0, footprints_pass (bad_footprints g reg) lengths_pass.1)

    both_lengths : (bad_register reg ≡ false) × (bad_starts g starts ≡ false)
    unfolding bad_lengths
    both_lengths = neither (bad_register reg) (bad_starts g starts) lengths_pass.0

    pub accepted : Accepted g reg
    accepted = record {
      sizes = sizes_pass.0;
      register = both_lengths.0;
      none_bad = footprints_pass (bad_footprints g reg) lengths_pass.1;
    }

    pub starts_stand : length starts ≡ runs g + 1
    unfolding bad_starts
    starts_stand = eqb-true (length starts) (runs g + 1) (not-false _ both_lengths.1)

    -- every footprint lies on the grid
    pub accepted_lies : Lies g reg (runs g + 1)
    unfolding column runs tile_count
    accepted_lies i h =
        let s = good_sizes g sizes_pass.0 in
        let a = good_footprint g reg accepted i h in
        record {
          small = s.n_most;
          cols = div_rises s.side_pos a.in_x.ordered;
          col = (div-lt_iff_lt-mul s.side_pos).1 a.in_x.inside;
          rows = div_rises s.side_pos a.in_y.ordered;
          row = (div-lt_iff_lt-mul s.side_pos).1 a.in_y.inside;
          room = omega arith;
        }

-- ---- the build: what each way to its end leaves

module _ (g : Grid) (reg starts entries : List ℕ) where
  pub build_refused : (r : Refusal) → register_verdict g reg starts pass ≡ refuse r → (paper_answer (Err r), starts, entries) ≡ builds g reg starts entries
  unfolding builds build_verdict paper_answer
  build_refused r e = rw (verdict_refused g reg starts (judge_room (length (built_entries g reg)) entries pass) r e)

  module _ (passed : register_verdict g reg starts pass ≡ pass) (need : ℕ) (is : need ≡ length (built_entries g reg)) where
    room_judged : build_verdict g reg starts entries ≡ judge (ltb (length entries) need) (Room need) pass
    unfolding build_verdict
    room_judged = verdict_passed g reg starts passed (judge_room (length (built_entries g reg)) entries pass) ∙ rw is

    pub build_short : length entries < need → (paper_answer (Err (Room need)), starts, entries) ≡ builds g reg starts entries
    unfolding builds paper_answer
    build_short h = rw (room_judged, lt-ltb (length entries) need h)

    pub build_done : need ≤ length entries → (s x : List ℕ) → s ≡ built_starts g reg → x ≡ over (built_entries g reg) entries
        → (paper_answer (Ok need), s, x) ≡ builds g reg starts entries
    unfolding builds
    build_done h s x es ex = rw (room_judged, le-ltb (length entries) need h, is, es, ex)

-- ---- the check

module _ (g : Grid) (reg starts entries : List ℕ) where
  pub check_refused : (r : Refusal) → register_verdict g reg starts pass ≡ refuse r → paper_checked (Err r) ≡ checks g reg starts entries
  unfolding checks paper_checked
  check_refused r e = rw e

  module _ (passed : register_verdict g reg starts pass ≡ pass) where
    pub check_done : (b : Bool) → b ≡ is_built g reg starts entries → paper_checked (Ok b) ≡ checks g reg starts entries
    unfolding checks
    check_done b e = rw (passed, e)
