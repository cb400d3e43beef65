-- A part of a table in bytes holds that part of its numbers. Assumes nothing.
use mathlib.Core.Path.{◌≡◌, refl, ap, ◌∙◌}
use mathlib.Core.List.{List, [], ◌∷◌}
use Prim.Native.Nat.{ℕ, zero, suc, ◌+◌, ◌-◌, ◌*◌}
use native.Mathlib.Omega.{arith}
use lib.ListN.{take, drop}
use Rattle.laws.specs.Lists.{part}
use Rattle.rules.specs.Bytes.{words}
use Rattle.numbers.proofs.Words.{up}

pub words_drop : (s : List ℕ) (a : ℕ) → words (drop (4 * a) s) ≡ drop a (words s)
unfolding words
words_drop s zero = refl
words_drop [] (suc a) = rw (up a)
words_drop (w ∷ []) (suc a) = rw (up a)
words_drop (w ∷ x ∷ []) (suc a) = rw (up a)
words_drop (w ∷ x ∷ y ∷ []) (suc a) = rw (up a)
words_drop (w ∷ x ∷ y ∷ z ∷ rest) (suc a) = rw (up a) (words_drop rest a)

pub words_take : (s : List ℕ) (c : ℕ) → words (take (4 * c) s) ≡ take c (words s)
unfolding words
words_take s zero = refl
words_take [] (suc c) = rw (up c)
words_take (w ∷ []) (suc c) = rw (up c)
words_take (w ∷ x ∷ []) (suc c) = rw (up c)
words_take (w ∷ x ∷ y ∷ []) (suc c) = rw (up c)
words_take (w ∷ x ∷ y ∷ z ∷ rest) (suc c) =
    rw (up c) (ap (λ (l : List ℕ). (w + 256 * (x + 256 * (y + 256 * z))) ∷ l) (words_take rest c))

pub words_part : (s : List ℕ) (a e : ℕ) → words (part s (4 * a) (4 * e)) ≡ part (words s) a e
words_part s a e =
    let d : 4 * e - 4 * a ≡ 4 * (e - a) = omega arith in
    ap (λ (n : ℕ). words (take n (drop (4 * a) s))) d ∙ words_take (drop (4 * a) s) (e - a) ∙ ap (take (e - a)) (words_drop s a)
