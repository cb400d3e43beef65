-- Bool tests: cases on a test and on an order, what a conjunction or a disjunction holds, and when two tests are equal. Assumes nothing.
use mathlib.Core.Path.{◌≡◌, refl, sym}
use mathlib.Core.Bool.{Bool, true, false, not, ◌&&◌, ◌||◌}
use Prim.Native.Nat.{ℕ, ◌≤◌, ◌<◌}
use native.Mathlib.Nat.{lt_of_not-le, not-suc-le-zero}
use native.Mathlib.Decide.{dec_le}
use native.Mathlib.Omega.{arith}
use lib.Dec.{leb, eqb}
use borrow.Author.Tests.{leb-true, le-leb, eqb-true, eq-eqb}

-- ---- cases

pub by_le {ℓ} : {X : Type ℓ} (a b : ℕ) → (a ≤ b → X) → (b < a → X) → X
by_le a b f g = elim (dec_le a b) [ yes h ↦ f h | no h ↦ g (lt_of_not-le h) ]

pub by_three {ℓ} : {X : Type ℓ} (a b : ℕ) → (a < b → X) → (a ≡ b → X) → (b < a → X) → X
by_three a b f e g = by_le a b (λ h. by_le b a (λ k. e (omega arith)) f) g

pub by_bool {ℓ} : {X : Type ℓ} (b : Bool) → (b ≡ true → X) → (b ≡ false → X) → X
by_bool true f g = f refl
by_bool false f g = g refl

-- no test both passes and fails
pub clash {ℓ} : {X : Type ℓ} → true ≡ false → X
clash e = let z : ◌≡◌ {A = ℕ} 0 1 = cc in absurd (not-suc-le-zero {n = 0} (omega arith))

-- ---- equal tests

pub iff : (a b : Bool) → (a ≡ true → b ≡ true) → (b ≡ true → a ≡ true) → a ≡ b
iff true b f g = sym (f refl)
iff false true f g = g refl
iff false false f g = refl

pub leb_same : (a b c d : ℕ) → (a ≤ b → c ≤ d) → (c ≤ d → a ≤ b) → leb a b ≡ leb c d
leb_same a b c d f g = iff (leb a b) (leb c d) (λ t. le-leb c d (f (leb-true a b t))) (λ t. le-leb a b (g (leb-true c d t)))

pub eqb_same : (a b c d : ℕ) → (a ≡ b → c ≡ d) → (c ≡ d → a ≡ b) → eqb a b ≡ eqb c d
eqb_same a b c d f g = iff (eqb a b) (eqb c d) (λ t. eq-eqb c d (f (eqb-true a b t))) (λ t. eq-eqb a b (g (eqb-true c d t)))

-- ---- parts of a test

pub fst_true : (a b : Bool) → (a && b) ≡ true → a ≡ true
fst_true true b e = refl
fst_true false b e = e

pub snd_true : (a b : Bool) → (a && b) ≡ true → b ≡ true
snd_true true b e = e
snd_true false true e = refl
snd_true false false e = e

pub both_true : {a b : Bool} → a ≡ true → b ≡ true → (a && b) ≡ true
both_true e f = rw (e, f)

pub all_three : (a b c : Bool) → (a && b && c) ≡ true → (a ≡ true) × (b ≡ true) × (c ≡ true)
all_three a b c e = (fst_true a b (fst_true (a && b) c e), snd_true a b (fst_true (a && b) c e), snd_true (a && b) c e)

-- neither part of a disjunction that fails passes
pub neither : (a b : Bool) → (a || b) ≡ false → (a ≡ false) × (b ≡ false)
neither true b e = clash e
neither false b e = (refl, e)

pub not_both : (a b : Bool) → (a ≡ true → b ≡ true → ⊥) → false ≡ (a && b)
not_both true true f = absurd (f refl refl)
not_both true false f = refl
not_both false b f = refl

pub not_not : (b : Bool) → not b ≡ true → b ≡ false
not_not true e = sym e
not_not false e = refl

pub cross : (a b c d : Bool) → ((a && b) && (c && d)) ≡ ((a && c) && (b && d))
cross true true c d = refl
cross true false true d = refl
cross true false false d = refl
cross false b c d = refl

pub cross_three : (a b c d e f : Bool) → (((a && b) && (c && d)) && (e && f)) ≡ (((a && c) && e) && ((b && d) && f))
cross_three true true true true e f = refl
cross_three true true true false true f = refl
cross_three true true true false false f = refl
cross_three true true false d true f = refl
cross_three true true false d false f = refl
cross_three true false true d true f = refl
cross_three true false true d false f = refl
cross_three true false false d e f = refl
cross_three false b c d e f = refl
