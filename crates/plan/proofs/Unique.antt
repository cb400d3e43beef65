-- Each promise of the plan viewer's functions has one answer: two answers that meet it are equal, in number and value, with every lent byte.
-- Assumes nothing.
use mathlib.Core.Path.{◌≡◌}
use mathlib.Core.List.{List}
use Prim.Native.Nat.{ℕ}
use Rattle.rules.specs.Bytes.{builds_bytes, checks_bytes, searches_bytes}
use Rattle.rules.specs.declared.Grid.{Grid}
use Rattle.rules.specs.declared.Point.{Point}
use Rattle.outward.specs.Outward.{told, outward, outward₁, outward₂}
use Rattle.outward.proofs.Unique.{one_told, one_told₁, one_told₂}

module _ (k k' v v' : ℕ) (g : Grid) (reg starts entries : List ℕ) where
  pub one_build_bytes : (s s' e e' : List ℕ) → (told k v, s, e) ≡ outward₂ (builds_bytes g reg starts entries)
      → (told k' v', s', e') ≡ outward₂ (builds_bytes g reg starts entries) → (k ≡ k') × (v ≡ v') × (s ≡ s') × (e ≡ e')
  one_build_bytes s s' e e' = one_told₂ k k' v v' s s' e e' (outward₂ (builds_bytes g reg starts entries))

  pub one_check_bytes : told k v ≡ outward (checks_bytes g reg starts entries) → told k' v' ≡ outward (checks_bytes g reg starts entries)
      → (k ≡ k') × (v ≡ v')
  one_check_bytes = one_told k k' v v' (outward (checks_bytes g reg starts entries))

  pub one_search_bytes : (q : Point) (r : ℕ) (out o o' : List ℕ) → (told k v, o) ≡ outward₁ (searches_bytes g reg starts entries q r out)
      → (told k' v', o') ≡ outward₁ (searches_bytes g reg starts entries q r out) → (k ≡ k') × (v ≡ v') × (o ≡ o')
  one_search_bytes q r out o o' = one_told₁ k k' v v' o o' (outward₁ (searches_bytes g reg starts entries q r out))
