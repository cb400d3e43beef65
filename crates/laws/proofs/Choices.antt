-- Choices by a test. Assumes nothing.
use mathlib.Core.Path.{◌≡◌, refl}
use mathlib.Core.Bool.{Bool, true, false, cond}

-- what holds on both ways of a test holds of the choice
pub by_cond {ℓ} : {A : Type 0} (P : A → Type ℓ) (b : Bool) (x y : A) → (b ≡ true → P x) → (b ≡ false → P y) → P (cond b x y)
by_cond P true x y f g = f refl
by_cond P false x y f g = g refl
