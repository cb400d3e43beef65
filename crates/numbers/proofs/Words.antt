-- The numbers that bytes hold: each of them, and after one is written. Assumes nothing.
use mathlib.Core.Path.{◌≡◌, refl, sym, ap, ◌∙◌}
use mathlib.Core.List.{List, [], ◌∷◌}
use Prim.Native.Nat.{ℕ, zero, suc, ◌+◌, ◌-◌, ◌*◌, ◌/◌, ◌%◌, ◌^◌, ◌<◌}
use native.Mathlib.Nat.{suc-add}
use native.Mathlib.Omega.{arith}
use lib.ListN.{length, get_or, set}
use borrow.Rule.Slice.PartMut.{put_mid}
use Rattle.rules.specs.Bytes.{words}
use Rattle.rules.proofs.Bytes.{digits}
use Rattle.numbers.specs.Words.{put_word}

-- the number at place k
abbrev pub word_at : List ℕ → ℕ → ℕ
word_at s k = get_or s (4 * k) 0 + 256 * (get_or s (4 * k + 1) 0 + 256 * (get_or s (4 * k + 2) 0 + 256 * get_or s (4 * k + 3) 0))

pub up : (i : ℕ) → 4 * suc i ≡ suc (suc (suc (suc (4 * i))))
up i = omega arith

pub word_at_law : (s : List ℕ) (i : ℕ) → 4 * i + 3 < length s → get_or (words s) i 0 ≡ word_at s i
unfolding words
word_at_law [] i h = absurd (let x : ⊥ = omega arith in x)
word_at_law (a ∷ []) i h = absurd (let x : ⊥ = omega arith in x)
word_at_law (a ∷ b ∷ []) i h = absurd (let x : ⊥ = omega arith in x)
word_at_law (a ∷ b ∷ c ∷ []) i h = absurd (let x : ⊥ = omega arith in x)
word_at_law (a ∷ b ∷ c ∷ d ∷ rest) zero h = refl
word_at_law (a ∷ b ∷ c ∷ d ∷ rest) (suc i) h = word_at_law rest i (omega arith) ∙ sym (simp (up, suc-add))

-- a written number is that number, and no other changes
pub word_put : (s : List ℕ) (i v : ℕ) → 4 * i + 3 < length s → words (put_word s i v) ≡ set (words s) i v
unfolding words
word_put [] i v h = absurd (let x : ⊥ = omega arith in x)
word_put (a ∷ []) i v h = absurd (let x : ⊥ = omega arith in x)
word_put (a ∷ b ∷ []) i v h = absurd (let x : ⊥ = omega arith in x)
word_put (a ∷ b ∷ c ∷ []) i v h = absurd (let x : ⊥ = omega arith in x)
word_put (a ∷ b ∷ c ∷ d ∷ rest) zero v h = ap (λ (w : ℕ). w ∷ words rest) (digits v)
word_put (a ∷ b ∷ c ∷ d ∷ rest) (suc i) v h =
    simp (up, suc-add) (ap (λ (w : List ℕ). (a + 256 * (b + 256 * (c + 256 * d))) ∷ w) (word_put rest i v (omega arith)))

-- four bytes written at a place, one after the other
pub four_laid : (s : List ℕ) (i : ℕ) (a b c d : ℕ) → i + 3 < length s
    → put_mid i 4 s (a ∷ b ∷ c ∷ d ∷ []) ≡ set (set (set (set s i a) (i + 1) b) (i + 2) c) (i + 3) d
four_laid [] i a b c d h = absurd (let x : ⊥ = omega arith in x)
four_laid (w ∷ []) zero a b c d h = absurd (let x : ⊥ = omega arith in x)
four_laid (w ∷ x ∷ []) zero a b c d h = absurd (let x : ⊥ = omega arith in x)
four_laid (w ∷ x ∷ y ∷ []) zero a b c d h = absurd (let x : ⊥ = omega arith in x)
four_laid (w ∷ x ∷ y ∷ z ∷ rest) zero a b c d h = refl
four_laid (w ∷ s) (suc i) a b c d h = simp suc-add (ap (λ (l : List ℕ). w ∷ l) (four_laid s i a b c d (omega arith)))

-- a number's bytes, laid where it stands
pub word_laid : (s : List ℕ) (k v : ℕ) (new : List ℕ) → 4 * k + 3 < length s → v < 2 ^ 32
    → new ≡ v % 256 ∷ v / 256 % 256 ∷ v / 65536 % 256 ∷ v / 16777216 % 256 ∷ [] → put_mid (4 * k) (4 * k + 4 - 4 * k) s new ≡ put_word s k v
word_laid s k v new h fits e =
    let four : 4 * k + 4 - 4 * k ≡ 4 = omega arith in
    let last : v / 16777216 % 256 ≡ v / 16777216 = omega arith in
    rw (four, e, last) (four_laid s (4 * k) _ _ _ _ h)
