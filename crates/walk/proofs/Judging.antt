-- One run: judged and counted, and what it brings where it shows no damage. Assumes nothing.
use mathlib.Core.Path.{◌≡◌, refl, sym, ap, ◌∙◌}
use mathlib.Core.Bool.{Bool, true, false, not, ◌&&◌, ◌||◌}
use mathlib.Core.List.{[], ◌∷◌, append-nil}
use Prim.Native.Nat.{ℕ, ◌+◌, ◌-◌, ◌*◌, ◌≤◌, ◌<◌}
use native.Mathlib.Omega.{arith}
use lib.Dec.{eqb, ltb}
use lib.ListN.{length, length-drop}
use lib.Seq.{length-take-le}
use borrow.Author.Tests.{eqb-true, ltb-false, not-false}
use Rattle.laws.specs.Lists.{part}
use Rattle.laws.proofs.Tests.{neither, not_not, fst_true, snd_true}
use Rattle.rules.specs.Sizes.{most_entries, tile_count}
use Rattle.rules.specs.Register.{bad_register}
use Rattle.rules.specs.Tables.{Tables, runs, bad_starts, bad_lengths, run_start, run_end, run_at, bad_ends, good_run, good_runs}
use Rattle.rules.specs.declared.Grid.{Grid}
use Rattle.rules.specs.declared.Point.{Point}
use Rattle.tables.proofs.Runs.{good_ends}
use Rattle.tables.specs.Entries.{good_entries}
use Rattle.walk.specs.Reading.{entry_rows, run_rows, Counted}

-- the starts of a class in a tile, and the next, stand in the table
pub starts_stand : (g : Grid) (t : Tables) → bad_lengths g t ≡ false → (tile class : ℕ) → tile < tile_count g → class < 16
    → 16 * tile + class + 1 < length t.starts
unfolding bad_lengths bad_starts runs
starts_stand g t e tile class h k =
    let s = (neither (bad_register t.reg) _ e).1 in
    let n : length t.starts ≡ 16 * tile_count g + 1 = eqb-true _ _ (not-false (eqb (length t.starts) (16 * tile_count g + 1)) s) in
    omega arith

module _ (g : Grid) (t : Tables) where
  module _ (k a e : ℕ) (ea : a ≡ run_start t.starts k) (ee : e ≡ run_end t.starts k) where
    one_good : (b d : Bool) → bad_ends (length t.entries) a e ≡ b → good_entries g t.reg (part t.entries a e) ≡ d → good_runs g t (k ∷ []) ≡ ((not b && d) && true)
    unfolding good_runs good_run run_at
    one_good b d f h = rw (← ea, ← ee, f, h) refl

    pub run_ends_bad : bad_ends (length t.entries) a e ≡ true → good_runs g t (k ∷ []) ≡ false
    run_ends_bad f = one_good true (good_entries g t.reg (part t.entries a e)) f refl

    pub run_part_bad : bad_ends (length t.entries) a e ≡ false → good_entries g t.reg (part t.entries a e) ≡ false → good_runs g t (k ∷ []) ≡ false
    run_part_bad f h = one_good false false f h

    run_length : bad_ends (length t.entries) a e ≡ false → length (part t.entries a e) ≡ e - a
    run_length f =
        let m = good_ends (length t.entries) a e f in
        let l = length-drop a t.entries in
        length-take-le (e - a) _ (omega arith)

    run_most : bad_ends (length t.entries) a e ≡ false → e ≤ most_entries
    unfolding bad_ends
    run_most f = ltb-false most_entries e (neither (ltb e a || ltb (length t.entries) e) (ltb most_entries e) f).1

    pub run_fine : bad_ends (length t.entries) a e ≡ false → good_entries g t.reg (part t.entries a e) ≡ true → Counted g t (k ∷ []) 1 (e - a)
    unfolding run_at
    run_fine f h = record {
      good = one_good false true f h;
      counts = sym (run_length f) ∙ rw (ea, ee) (sym (ap length (append-nil (part t.entries (run_start t.starts k) (run_end t.starts k)))));
      few = let m = run_most f in omega arith;
    }

  -- a run without damage: its ends lie among the entries, and its entries may be named
  pub run_good : (k a e : ℕ) → a ≡ run_start t.starts k → e ≡ run_end t.starts k → good_runs g t (k ∷ []) ≡ true
      → (a ≤ e) × (e ≤ length t.entries) × (good_entries g t.reg (part t.entries a e) ≡ true)
  unfolding good_runs good_run run_at
  run_good k a e ea ee h =
      let f = fst_true _ true h in
      let x = fst_true (not (bad_ends (length t.entries) (run_start t.starts k) (run_end t.starts k))) _ f in
      let y = snd_true (not (bad_ends (length t.entries) (run_start t.starts k) (run_end t.starts k))) _ f in
      let m = good_ends (length t.entries) (run_start t.starts k) (run_end t.starts k) (not_not _ x) in
      (rw (ea, ee) m.0, rw ee m.1, rw (ea, ee) y)

  pub one_run_law : (q : Point) (k a e : ℕ) → a ≡ run_start t.starts k → e ≡ run_end t.starts k
      → entry_rows g t.reg q (part t.entries a e) ≡ run_rows g t q (k ∷ [])
  unfolding run_at
  one_run_law q k a e ea ee = rw (ea, ee) (ap (entry_rows g t.reg q) (sym (append-nil (part t.entries (run_start t.starts k) (run_end t.starts k)))))
