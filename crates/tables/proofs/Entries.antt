-- Entries judged one after the other. Assumes nothing.
use mathlib.Core.Path.{◌≡◌, refl}
use mathlib.Core.Bool.{Bool, true, false, not, ◌&&◌, ◌||◌}
use mathlib.Core.List.{List, [], ◌∷◌}
use Prim.Native.Nat.{ℕ}
use Rattle.std.specs.List.{list_any}
use Rattle.laws.specs.Lists.{all}

not_either : (a b c : Bool) → b ≡ not c → (a || b) ≡ not (not a && c)
not_either true b c e = refl
not_either false b c e = e

-- one is bad where not all are good
pub any_bad : (p : ℕ → Bool) (l : List ℕ) → list_any p l ≡ not (all (λ i. not (p i)) l)
any_bad p [] = refl
any_bad p (i ∷ l) = not_either (p i) _ _ (any_bad p l)
