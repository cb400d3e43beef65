-- Entries from one on: all may be named if it and those behind it may; they are brought one by one. Assumes nothing.
use mathlib.Core.Path.{◌≡◌, refl, sym, ap, ◌∙◌}
use mathlib.Core.Bool.{true, false, not}
use mathlib.Core.List.{List, [], ◌∷◌}
use Prim.Native.Nat.{ℕ, ◌+◌, ◌≤◌, ◌<◌}
use native.Mathlib.Numerals.{add-one}
use lib.ListN.{length, drop, get_or, drop_of_length-le}
use lib.Seq.{drop-cons}
use Rattle.laws.proofs.Tests.{fst_true, snd_true, not_not}
use Rattle.rules.specs.Register.{bad_entry}
use Rattle.rules.specs.Walk.{waiting_row}
use Rattle.rules.specs.declared.Grid.{Grid}
use Rattle.rules.specs.declared.Point.{Point}
use Rattle.rules.specs.declared.Item.TheVariants.{Footprint}
use Rattle.tables.specs.Entries.{good_entries}
use Rattle.walk.specs.Reading.{entry_rows}

module _ (g : Grid) (reg entries : List ℕ) (i : ℕ) where
  pub rows_end : (q : Point) → length entries ≤ i → entry_rows g reg q (drop i entries) ≡ []
  rows_end q h = ap (entry_rows g reg q) (drop_of_length-le entries {i = i} h)

  module _ (lt : i < length entries) where
    next : drop i entries ≡ get_or entries i 0 ∷ drop (i + 1) entries
    next = drop-cons entries i 0 lt ∙ rw (add-one i) refl

    -- all may be named: the next and those behind it
    pub next_good : good_entries g reg (drop i entries) ≡ true → (bad_entry g reg (get_or entries i 0) ≡ false) × (good_entries g reg (drop (i + 1) entries) ≡ true)
    next_good p =
        let e = sym (ap (good_entries g reg) next) ∙ p in
        let b = good_entries g reg (drop (i + 1) entries) in (
          not_not (bad_entry g reg (get_or entries i 0)) (fst_true (not (bad_entry g reg (get_or entries i 0))) b e),
          snd_true (not (bad_entry g reg (get_or entries i 0))) b e,
        )

    pub rows_next : (q : Point) → entry_rows g reg q (drop i entries) ≡ waiting_row g reg q (Footprint (get_or entries i 0)) ∷ entry_rows g reg q (drop (i + 1) entries)
    rows_next q = ap (entry_rows g reg q) next
