-- Numbers among bytes: how many bytes hold, and one that is written. Assumes nothing.
use mathlib.Core.Path.{◌≡◌, refl, sym, ap, ◌∙◌}
use mathlib.Core.List.{List, [], ◌∷◌}
use Prim.Native.Nat.{ℕ, ◌+◌, ◌*◌, ◌/◌, ◌%◌, ◌≤◌}
use native.Mathlib.Omega.{arith}
use lib.ListN.{length, set}
use Rattle.rules.specs.Bytes.{words}

-- the four bytes of number k become those of v
abbrev pub put_word : List ℕ → ℕ → ℕ → List ℕ
put_word s k v = set (set (set (set s (4 * k) (v % 256)) (4 * k + 1) (v / 256 % 256)) (4 * k + 2) (v / 65536 % 256)) (4 * k + 3) (v / 16777216)

-- four bytes hold a number
pub word_count : (s : List ℕ) → length (words s) ≡ length s / 4
unfolding words
word_count [] = refl
word_count (a ∷ []) = refl
word_count (a ∷ b ∷ []) = refl
word_count (a ∷ b ∷ c ∷ []) = refl
word_count (a ∷ b ∷ c ∷ d ∷ rest) = let e = word_count rest in omega arith

-- so they hold no more numbers than they are
pub at_most : (s : List ℕ) → length (words s) ≤ length s
at_most s = omega (arith, word_count s)

-- as many bytes hold as many numbers
pub same_count : (s t : List ℕ) → length s ≡ length t → length (words s) ≡ length (words t)
same_count s t e = word_count s ∙ ap (λ (n : ℕ). n / 4) e ∙ sym (word_count t)
