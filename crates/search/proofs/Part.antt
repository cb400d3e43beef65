-- The loop over a part of the entries: what is left of it, one entry more, damage, the end. Assumes nothing.
use mathlib.Core.Path.{◌≡◌, refl, sym, ap, ◌∙◌}
use mathlib.Core.Bool.{false, not, ◌&&◌}
use mathlib.Core.List.{List, [], ◌∷◌, ◌++◌}
use Prim.Native.Nat.{ℕ, ◌+◌, ◌-◌, ◌≤◌, ◌<◌}
use native.Mathlib.Omega.{arith}
use lib.ListN.{length, get_or}
use Rattle.std.specs.Prelude.{Some}
use Rattle.laws.specs.Lists.{part}
use Rattle.laws.proofs.Lists.{filter_append}
use Rattle.laws.proofs.Parts.{all_append, part_none, part_next}
use Rattle.rules.specs.Register.{bad_entry}
use Rattle.rules.specs.Search.{is_hit}
use Rattle.rules.specs.declared.Grid.{Grid}
use Rattle.rules.specs.declared.Point.{Point}
use Rattle.tables.specs.Entries.{good_entries}
use Rattle.search.specs.Reading.{keep_hit, Left, hits_in, JudgedEntries}
use Rattle.search.proofs.Left.{left_all, left_on, left_bad, left_none}

-- of the entries begin..past−1, those from i on are left, and found hits are found
pub record PartLeft (g : Grid) (reg entries : List ℕ) (q : Point) (r begin past c₀ : ℕ) (lent₀ lent : List ℕ) (found i : ℕ) : Type 0 where
  pub left : Left (keep_hit g reg q) (good_entries g reg (part entries begin past)) (good_entries g reg (part entries i past))
      (hits_in g reg q r (part entries begin past)) (hits_in g reg q r (part entries i past)) c₀ found lent₀ lent
  pub few : found + (past - i) ≤ c₀ + (past - begin)
  pub sized : length lent ≡ length lent₀

module _ {g : Grid} {reg entries : List ℕ} {q : Point} {r begin past c₀ : ℕ} {lent₀ : List ℕ} where
  pub part_all : PartLeft g reg entries q r begin past c₀ lent₀ lent₀ c₀ begin
  part_all = record { left = left_all _ _ _ _; few = omega arith; sized = refl }

  module _ {lent : List ℕ} {found i : ℕ} (p : PartLeft g reg entries q r begin past c₀ lent₀ lent found i) where
    pub part_end : past ≤ i → JudgedEntries g reg q r (part entries begin past) (past - begin) c₀ lent₀ (Some found) lent
    part_end h = record {
      left = left_none p.left (ap (good_entries g reg) (part_none entries i past h)) (ap (hits_in g reg q r) (part_none entries i past h));
      few = omega (arith, p.few);
    }

    -- entry e, which is the next, is judged
    module _ (lt : i < past) (inside : past ≤ length entries) {e : ℕ} (read : e ≡ get_or entries i 0) where
      next : part entries i past ≡ e ∷ part entries (i + 1) past
      next = part_next entries i past lt (omega arith) ∙ ap (λ (n : ℕ). n ∷ part entries (i + 1) past) (sym read)

      good_next : good_entries g reg (part entries i past) ≡ (good_entries g reg (e ∷ []) && good_entries g reg (part entries (i + 1) past))
      good_next = ap (good_entries g reg) next ∙ all_append (λ i. not (bad_entry g reg i)) (e ∷ []) (part entries (i + 1) past)

      hits_next : hits_in g reg q r (part entries i past) ≡ hits_in g reg q r (e ∷ []) ++ hits_in g reg q r (part entries (i + 1) past)
      hits_next = ap (hits_in g reg q r) next ∙ filter_append (is_hit g reg q r) (e ∷ []) (part entries (i + 1) past)

      pub part_on : {c : ℕ} {lent' : List ℕ} → JudgedEntries g reg q r (e ∷ []) 1 found lent (Some c) lent' → length lent' ≡ length lent
          → PartLeft g reg entries q r begin past c₀ lent₀ lent' c (i + 1)
      part_on j s = record {
        left = left_on (good_entries g reg (part entries (i + 1) past)) (hits_in g reg q r (part entries (i + 1) past)) p.left good_next hits_next j.left;
        few = omega (arith, p.few, j.few);
        sized = s ∙ p.sized;
      }

      pub part_bad : good_entries g reg (e ∷ []) ≡ false → good_entries g reg (part entries begin past) ≡ false
      part_bad b = left_bad (good_entries g reg (part entries (i + 1) past)) p.left good_next b
