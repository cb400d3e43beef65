-- Bytes and the numbers that they hold are the same: nothing is lost either way. Assumes nothing.
use mathlib.Core.Path.{◌≡◌, refl, ap, ap₂, ◌∙◌}
use mathlib.Core.List.{List, [], ◌∷◌}
use Prim.Native.Nat.{ℕ, suc, ◌+◌, ◌*◌, ◌/◌, ◌%◌, ◌<◌}
use native.Mathlib.Omega.{arith}
use lib.ListN.{length, get_or}
use Rattle.rules.specs.Bytes.{words, bytes}

-- every number of a list is below m
abbrev pub Below : ℕ → List ℕ → Type 0
Below m l = (i : ℕ) → i < length l → get_or l i 0 < m

-- a number's digits to the base of 256
pub digits : (v : ℕ) → v % 256 + 256 * (v / 256 % 256 + 256 * (v / 65536 % 256 + 256 * (v / 16777216))) ≡ v
digits v = omega arith

-- a table's bytes hold the table
pub words_bytes : (l : List ℕ) → words (bytes l) ≡ l
unfolding words bytes
words_bytes [] = refl
words_bytes (v ∷ l) = ap₂ (λ (a : ℕ) (m : List ℕ). a ∷ m) (digits v) (words_bytes l)

-- the bytes of the number that four bytes hold
module _ (a b c d : ℕ) (ha : a < 256) (hb : b < 256) (hc : c < 256) (hd : d < 256) where
  abbrev v : ℕ
  v = a + 256 * (b + 256 * (c + 256 * d))

  first : v % 256 ≡ a
  first = omega arith

  second : v / 256 % 256 ≡ b
  second = omega arith

  third : v / 65536 % 256 ≡ c
  third = omega arith

  fourth : v / 16777216 ≡ d
  fourth = omega arith

  pub bytes_of_law : (rest : List ℕ) → bytes (v ∷ rest) ≡ a ∷ b ∷ c ∷ d ∷ bytes rest
  unfolding bytes
  bytes_of_law rest =
      ap₂ (λ (x : ℕ) (l : List ℕ). x ∷ l) first
      (ap₂ (λ (x : ℕ) (l : List ℕ). x ∷ l) second
      (ap₂ (λ (x : ℕ) (l : List ℕ). x ∷ l) third (ap (λ (x : ℕ). x ∷ bytes rest) fourth)))

-- the numbers of bytes whose length is a multiple of four have those bytes
pub bytes_words : (s : List ℕ) → Below 256 s → length s % 4 ≡ 0 → bytes (words s) ≡ s
unfolding words bytes
bytes_words [] h k = refl
bytes_words (a ∷ []) h k = absurd (let x : ⊥ = omega arith in x)
bytes_words (a ∷ b ∷ []) h k = absurd (let x : ⊥ = omega arith in x)
bytes_words (a ∷ b ∷ c ∷ []) h k = absurd (let x : ⊥ = omega arith in x)
bytes_words (a ∷ b ∷ c ∷ d ∷ rest) h k =
    bytes_of_law a b c d (h 0 (omega arith)) (h 1 (omega arith)) (h 2 (omega arith)) (h 3 (omega arith)) (words rest)
    ∙ ap (λ (l : List ℕ). a ∷ b ∷ c ∷ d ∷ l)
    (bytes_words rest (λ i l. h (suc (suc (suc (suc i)))) (omega arith)) (omega arith))
