-- A test at every number below n, which antt computes, is the test at each of them; and two tests that agree. Assumes nothing.
use mathlib.Core.Path.{◌≡◌, refl, sym, ap, ◌∙◌}
use mathlib.Core.Bool.{Bool, true, false, not}
use mathlib.Core.List.{List, ◌∷◌, Memᴰ}
use Prim.Native.Nat.{ℕ, ◌<◌, zero-le}
use native.Mathlib.Nat.{zero-add}
use Rattle.laws.specs.Lists.{up_to, all}
use Rattle.laws.proofs.Tests.{fst_true, snd_true}
use Rattle.laws.proofs.Ranges.{from_mem}

pub all_mem : {A : Type 0} (p : A → Bool) {x : A} (l : List A) → all p l ≡ true → Memᴰ x l → p x ≡ true
all_mem {A = A} p mathlib.Core.List.[] e x3 = elim x3 [ ]
all_mem p (y ∷ l) e (Memᴰ.head f) = ap p f ∙ fst_true (p y) (all p l) e
all_mem p (y ∷ l) e (Memᴰ.tail m) = all_mem p l (snd_true (p y) (all p l) e) m

pub all_below : (p : ℕ → Bool) (n : ℕ) → all p (up_to n) ≡ true → (k : ℕ) → k < n → p k ≡ true
all_below p n e k h = all_mem p (up_to n) e (from_mem 0 n k zero-le (rw zero-add h))

-- both pass or both fail
abbrev pub agree : Bool → Bool → Bool
agree true b = b
agree false b = not b

pub agreed : (a b : Bool) → agree a b ≡ true → a ≡ b
agreed true b e = sym e
agreed false true e = e
agreed false false e = refl
