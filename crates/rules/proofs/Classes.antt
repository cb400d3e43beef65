-- Classes by their bits; how many classes each of the nine sets has, and how many marks each position. Assumes nothing.
use mathlib.Core.Path.{◌≡◌, refl}
use mathlib.Core.Bool.{Bool, true, false, ◌&&◌}
use mathlib.Core.List.{List, [], ◌∷◌, map}
use Prim.Native.Nat.{ℕ, ◌≤◌, ◌<◌, zero-le}
use native.Mathlib.Nat.{le_refl}
use native.Mathlib.Omega.{arith}
use lib.ListN.{length}
use Rattle.laws.specs.Lists.{filter, each}
use Rattle.rules.specs.Span.{Place, before, level, after, gives, joined}
use Rattle.rules.specs.Classes.{bit, class_no, is_set, classes, class_of, allowed, marked}
use Rattle.rules.specs.declared.Grid.{Grid}
use Rattle.rules.specs.declared.Rect.{Rect}

-- a class's bits are those that it was made of
pub class_bits : (xb xe yb ye : Bool)
    → (is_set (class_no xb xe yb ye) 8 ≡ xb) × (is_set (class_no xb xe yb ye) 4 ≡ xe)
    × (is_set (class_no xb xe yb ye) 2 ≡ yb) × (is_set (class_no xb xe yb ye) 1 ≡ ye)
unfolding is_set class_no
class_bits true true true true = (refl, refl, refl, refl)
class_bits true true true false = (refl, refl, refl, refl)
class_bits true true false true = (refl, refl, refl, refl)
class_bits true true false false = (refl, refl, refl, refl)
class_bits true false true true = (refl, refl, refl, refl)
class_bits true false true false = (refl, refl, refl, refl)
class_bits true false false true = (refl, refl, refl, refl)
class_bits true false false false = (refl, refl, refl, refl)
class_bits false true true true = (refl, refl, refl, refl)
class_bits false true true false = (refl, refl, refl, refl)
class_bits false true false true = (refl, refl, refl, refl)
class_bits false true false false = (refl, refl, refl, refl)
class_bits false false true true = (refl, refl, refl, refl)
class_bits false false true false = (refl, refl, refl, refl)
class_bits false false false true = (refl, refl, refl, refl)
class_bits false false false false = (refl, refl, refl, refl)

bit_most : (b : Bool) → bit b ≤ 1
bit_most true = le_refl 1
bit_most false = zero-le

class_no_below : (xb xe yb ye : Bool) → class_no xb xe yb ye < 16
unfolding class_no
class_no_below xb xe yb ye = omega (arith, bit_most xb, bit_most xe, bit_most yb, bit_most ye)

pub class_below : (g : Grid) (t : ℕ) (a : Rect) → class_of g t a < 16
unfolding class_of
class_below g t a = class_no_below _ _ _ _

-- a class is allowed where both dimensions give its bits
pub allowed_bits : (px py : Place) (xb xe yb ye : Bool) → allowed px py (class_no xb xe yb ye) ≡ (gives px xb xe && gives py yb ye)
unfolding allowed
allowed_bits px py xb xe yb ye = let b = class_bits xb xe yb ye in rw (b.0, b.1, b.2, b.3)

-- two classes are joined where both dimensions join their bits
pub marked_bits : (px py : Place) (xb xe yb ye xb' xe' yb' ye' : Bool)
    → marked px py (class_no xb xe yb ye) (class_no xb' xe' yb' ye') ≡ (joined px xb xe xb' xe' && joined py yb ye yb' ye')
unfolding marked
marked_bits px py xb xe yb ye xb' xe' yb' ye' =
    let b = class_bits xb xe yb ye in
    let d = class_bits xb' xe' yb' ye' in
    simp (b.0, b.1, b.2, b.3, d.0, d.1, d.2, d.3)

-- ---- how many

abbrev pub three_places : List Place
three_places = before ∷ level ∷ after ∷ []

-- f at the nine positions: before, level, after in y, and so in x
abbrev pub nine : (Place → Place → ℕ) → List ℕ
nine f = each (λ py. map (λ px. f px py) three_places) three_places

-- the nine sets have 16, 8 or 4 classes
pub set_sizes : nine (λ px py. length (filter (allowed px py) classes)) ≡ 4 ∷ 8 ∷ 4 ∷ 8 ∷ 16 ∷ 8 ∷ 4 ∷ 8 ∷ 4 ∷ []
unfolding allowed is_set classes
set_sizes = refl

-- 144 marks for the same tile, 48 for each side tile, 16 for each corner tile
pub mark_counts : nine (λ px py. length (each (λ a. filter (marked px py a) classes) classes))
    ≡ 16 ∷ 48 ∷ 16 ∷ 48 ∷ 144 ∷ 48 ∷ 16 ∷ 48 ∷ 16 ∷ []
unfolding marked is_set classes
mark_counts = refl
