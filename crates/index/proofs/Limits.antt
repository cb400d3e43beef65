-- The limits: no accepted register needs more than 268,435,456 entries; one number short of room is refused with the whole need, and an
-- exact fit is accepted. Assumes nothing.
use mathlib.Core.Path.{◌≡◌, refl, sym, ap, ◌∙◌}
use mathlib.Core.List.{List, ◌++◌, append-nil}
use Prim.Native.Nat.{ℕ, ◌+◌, ◌≤◌}
use native.Mathlib.Nat.{le_trans, mul-le-mul}
use native.Mathlib.Omega.{arith}
use lib.ListN.{length, drop_of_length-le}
use Rattle.std.specs.Prelude.{Ok, Err}
use Rattle.laws.specs.Lists.{over}
use Rattle.rules.specs.Sizes.{most_entries, tile_count}
use Rattle.rules.specs.Tables.{built_entries, built_starts}
use Rattle.rules.specs.Refusals.{pass, paper_answer}
use Rattle.rules.specs.Build.{register_verdict, builds}
use Rattle.rules.specs.declared.Grid.{Grid}
use Rattle.rules.specs.declared.Refusal.TheVariants.{Room}
use Rattle.rules.proofs.Good.{Accepted, good_sizes, few_footprints}
use Rattle.rules.proofs.Built.{most_entries_law}
use Rattle.grid.proofs.Bounds.{square_most}
use Rattle.index.proofs.Verdict.{build_short, build_done}

pub entries_most : (g : Grid) (reg : List ℕ) → Accepted g reg → length (built_entries g reg) ≤ most_entries
unfolding tile_count
entries_most g reg ok =
    le_trans (most_entries_law g reg)
    (mul-le-mul {n₂ = 65536} {m₂ = 4096} (few_footprints g reg ok) (square_most g.n (good_sizes g ok.sizes).n_most))

module _ (g : Grid) (reg starts entries : List ℕ) (passed : register_verdict g reg starts pass ≡ pass) where
  pub one_short : length entries + 1 ≡ length (built_entries g reg)
      → builds g reg starts entries ≡ (paper_answer (Err (Room (length (built_entries g reg)))), starts, entries)
  one_short h = sym (build_short g reg starts entries passed (length (built_entries g reg)) refl (omega arith))

  pub exact_fit : length entries ≡ length (built_entries g reg)
      → builds g reg starts entries ≡ (paper_answer (Ok (length (built_entries g reg))), built_starts g reg, built_entries g reg)
  exact_fit h =
      sym (build_done g reg starts entries passed (length (built_entries g reg)) refl (omega arith) (built_starts g reg) (built_entries g reg) refl (sym whole))
    where
      whole : over (built_entries g reg) entries ≡ built_entries g reg
      whole =
          ap (λ (l : List ℕ). built_entries g reg ++ l) (drop_of_length-le entries {i = length (built_entries g reg)} (omega arith)) ∙ append-nil (built_entries g reg)
