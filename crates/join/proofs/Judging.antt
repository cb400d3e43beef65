-- A run is judged by its two starts, and then by its entries. Assumes nothing.
use mathlib.Core.Path.{◌≡◌, refl, sym, ap, subst}
use mathlib.Core.Bool.{Bool, true, false, not, ◌||◌, ◌&&◌}
use mathlib.Core.List.{List, [], ◌∷◌}
use Prim.Native.Nat.{ℕ, zero, suc, ◌+◌, ◌≤◌}
use native.Mathlib.Numerals.{unary_clauses}
use lib.ListN.{length, get_or}
use borrow.Author.Tests.{eqb-true, not-false}
use Rattle.std.specs.List.{list_any, range_with_len}
use Rattle.laws.specs.Lists.{part, from, all}
use Rattle.rules.specs.Tables.{Tables, tables, runs, run_start, run_end, run_at, bad_starts, bad_ends, good_run}
use Rattle.rules.specs.declared.Grid.{Grid}
use Rattle.tables.proofs.Runs.{good_ends}
use Rattle.tables.specs.Entries.{good_entries}

-- starts of the right length are one more than the runs
pub starts_length : (g : Grid) (starts : List ℕ) → bad_starts g starts ≡ false → length starts ≡ runs g + 1
unfolding bad_starts
starts_length g starts h = eqb-true (length starts) (runs g + 1) (not-false _ h)

module _ (g : Grid) (reg starts entries : List ℕ) (k : ℕ) where
  -- bad ends are damage
  pub ends_bad : (a e : ℕ) → a ≡ run_start starts k → e ≡ run_end starts k → bad_ends (length entries) a e ≡ true → true ≡ not (good_run g (tables reg starts entries) k)
  unfolding good_run
  ends_bad a e ea ee h = rw (← ea, ← ee, h)

  -- past good ends the entries decide
  pub ends_good : (a e : ℕ) → a ≡ run_start starts k → e ≡ run_end starts k → bad_ends (length entries) a e ≡ false
      → not (good_entries g reg (part entries a e)) ≡ not (good_run g (tables reg starts entries) k)
  unfolding good_run run_at
  ends_good a e ea ee h = rw (← ea, ← ee, h)

-- ---- any that is bad

pub any_not_good : (p : ℕ → Bool) (l : List ℕ) → list_any (λ i. not (p i)) l ≡ not (all p l)
any_not_good p [] = refl
any_not_good p (i ∷ l) = go (p i) _ _ (any_not_good p l)
  where
    go : (a b c : Bool) → b ≡ not c → (not a || b) ≡ not (a && c)
    go true b c e = e
    go false b c e = refl

pub counted_from : (a n : ℕ) → range_with_len a n ≡ from a n
counted_from a zero = refl
counted_from a (suc n) = simp unary_clauses (ap (λ (l : List ℕ). a ∷ l) (counted_from (suc a) n))

-- ---- a run of a lent side

-- good ends lie among the entries
pub ends_among : (reg starts entries : List ℕ) (t : Tables) (k : ℕ) → tables reg starts entries ≡ t → bad_ends (length t.entries) (run_start t.starts k) (run_end t.starts k) ≡ false
    → (get_or starts k 0 ≤ get_or starts (k + 1) 0) × (get_or starts (k + 1) 0 ≤ length entries)
unfolding run_start run_end
ends_among reg starts entries t k e h = good_ends _ _ _ (let P : Tables → Type 0 = λ t. bad_ends (length t.entries) (get_or t.starts k 0) (get_or t.starts (k + 1) 0) ≡ false in subst P (sym e) h)
