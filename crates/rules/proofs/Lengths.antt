-- How long what is printed is: a line, a hit, and all that a question prints. Assumes nothing.
use mathlib.Core.Path.{refl}
use mathlib.Core.List.{List, [], ◌∷◌, ◌++◌, Memᴰ}
use Prim.Native.Nat.{ℕ, suc, ◌+◌, ◌*◌, ◌≤◌, ◌<◌}
use native.Mathlib.Nat.{mul-suc}
use native.Mathlib.Omega.{arith}
use lib.ListN.{length, length-append}
use Rattle.laws.specs.Lists.{each}
use Rattle.rules.specs.Distance.{point, square}
use Rattle.rules.specs.Register.{rectangle}
use Rattle.rules.specs.Text.{lf, decimal, line_of, found_word, no_word, square_word, hit_text, hit_of, hits_text}
use Rattle.rules.specs.declared.Grid.{Grid}
use Rattle.rules.specs.declared.Point.{Point}
use Rattle.rules.proofs.Decimals.{tens, decimal_length}

-- a word, the digits and LF
pub line_length : (w : List ℕ) (k n : ℕ) → n < tens (suc k) → length (line_of w n) ≤ length w + suc k + 1
unfolding line_of
line_length w k n h =
    omega (arith, length-append w (decimal n ++ (lf ∷ [])), length-append (decimal n) (lf ∷ []), decimal_length k n h)

-- a footprint's number has 3 digits at most, a square on 16 tiles of 16,384 cm has 12
pub hit_length : (i s : ℕ) → i < 1000 → s < 1000000000000 → length (hit_text i s) ≤ 27
unfolding hit_text
hit_length i s h k =
    omega (arith, length-append (line_of no_word i) (line_of square_word s), line_length no_word 2 i h, line_length square_word 11 s k)

pub each_length : (f : ℕ → List ℕ) (m : ℕ) (l : List ℕ) → ((i : ℕ) → Memᴰ i l → length (f i) ≤ m) → length (each f l) ≤ m * length l
each_length f m [] h = omega arith
each_length f m (a ∷ l) h =
    omega (
      arith,
      length-append (f a) (each f l),
      h a (Memᴰ.head refl),
      each_length f m l (λ i k. h i (Memᴰ.tail k)),
      mul-suc m (length l),
    )

-- all that a question prints finds room in 16,384 bytes
pub hits_length : (g : Grid) (reg : List ℕ) (q : Point) (hits : List ℕ) → length hits ≤ 512
    → ((i : ℕ) → Memᴰ i hits → (i < 1000) × (square (point q) (rectangle g reg i) < 1000000000000))
    → length (hits_text g reg q hits) ≤ 16384
unfolding hits_text hit_of
hits_length g reg q hits h k =
    omega (
      arith,
      length-append (line_of found_word (length hits)) (each (hit_of g reg q) hits),
      line_length found_word 2 (length hits) (omega arith),
      each_length (hit_of g reg q) 27 hits (λ i m. hit_length i (square (point q) (rectangle g reg i)) (k i m).0 (k i m).1),
    )
