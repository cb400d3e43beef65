-- Keeping pairs: one list after another, how many and in how much memory, and what is kept where all of it finds room. Assumes nothing.
use mathlib.Core.Path.{◌≡◌, refl, sym, ap, ◌∙◌}
use mathlib.Core.List.{List, [], ◌∷◌, ◌++◌, append_assoc}
use Prim.Native.Nat.{ℕ, ◌+◌, ◌*◌, ◌≤◌}
use native.Mathlib.Nat.{lt_irrefl}
use native.Mathlib.Omega.{arith}
use lib.ListN.{length, set, drop, length-append}
use lib.Seq.{set_at, drop-drop}
use borrow.Author.Tests.{le-leb}
use Rattle.laws.specs.Lists.{each, over}
use Rattle.rules.specs.Join.{Pair, pair_writes}
use Rattle.join.specs.Keeping.{Kept, state, lay, keep_one, kept}

pub kept_append : (s : Kept) (l m : List Pair) → kept s (l ++ m) ≡ kept (kept s l) m
unfolding kept
kept_append s [] m = refl
kept_append s (p ∷ l) m = kept_append (keep_one s p) l m

pub kept_pairs : (s : Kept) (l : List Pair) → (kept s l).pairs ≡ s.pairs + length l
unfolding kept keep_one
kept_pairs s [] = omega arith
kept_pairs s (p ∷ l) = omega (arith, kept_pairs (keep_one s p) l)

-- a pair laid behind w, which holds so many pairs
lay_behind : (c : ℕ) (p : Pair) (w x : List ℕ) → length w ≡ 2 * c → 2 ≤ length x
    → lay c p (w ++ x) ≡ (w ++ (p.0 ∷ p.1 ∷ [])) ++ drop 2 x
unfolding lay
lay_behind c p w [] e h = absurd (lt_irrefl 1 (omega arith))
lay_behind c p w (a ∷ []) e h = absurd (lt_irrefl 1 (omega arith))
lay_behind c p w (a ∷ b ∷ x) e h =
    let long : 2 * c + 2 ≤ length (w ++ (a ∷ b ∷ x)) = omega (arith, length-append w (a ∷ b ∷ x)) in
    let first : set (w ++ (a ∷ b ∷ x)) (2 * c) p.0 ≡ w ++ (p.0 ∷ b ∷ x) = set_at w a (b ∷ x) p.0 (2 * c) e in
    let turned : w ++ (p.0 ∷ b ∷ x) ≡ (w ++ (p.0 ∷ [])) ++ (b ∷ x) = sym (append_assoc w (p.0 ∷ []) (b ∷ x)) in
    let size : length (w ++ (p.0 ∷ [])) ≡ 2 * c + 1 = omega (arith, length-append w (p.0 ∷ [])) in
    rw (le-leb _ _ long, first, turned, set_at (w ++ (p.0 ∷ [])) b x p.1 (2 * c + 1) size)
    (append_assoc w (p.0 ∷ []) (p.1 ∷ x) ∙ sym (append_assoc w (p.0 ∷ p.1 ∷ []) x))

-- pairs that all find room behind w
kept_behind : (c : ℕ) (w x : List ℕ) (l : List Pair) → length w ≡ 2 * c → 2 * length l ≤ length x
    → (kept (state c (w ++ x)) l).memory ≡ w ++ over (each pair_writes l) x
unfolding kept keep_one pair_writes
kept_behind c w x [] e h = refl
kept_behind c w x (p ∷ l) e h =
    let size : length (w ++ (p.0 ∷ p.1 ∷ [])) ≡ 2 * (c + 1) = omega (arith, length-append w (p.0 ∷ p.1 ∷ [])) in
    ap (λ (m : List ℕ). (kept (state (c + 1) m) l).memory) (lay_behind c p w x e (omega arith))
    ∙ kept_behind (c + 1) (w ++ (p.0 ∷ p.1 ∷ [])) (drop 2 x) l size (room x h)
    ∙ append_assoc w (p.0 ∷ p.1 ∷ []) (over (each pair_writes l) (drop 2 x))
    ∙ ap (λ (m : List ℕ). w ++ (p.0 ∷ p.1 ∷ (each pair_writes l ++ m))) (behind x)
  where
    room : (x : List ℕ) → 2 * length (p ∷ l) ≤ length x → 2 * length l ≤ length (drop 2 x)
    room [] h = absurd (lt_irrefl 1 (omega arith))
    room (a ∷ []) h = absurd (lt_irrefl 1 (omega arith))
    room (a ∷ b ∷ x) h = omega arith

    behind : (x : List ℕ) → drop (length (each pair_writes l)) (drop 2 x) ≡ drop (length (p.0 ∷ p.1 ∷ each pair_writes l)) x
    behind x =
        let e : 2 + length (each pair_writes l) ≡ length (p.0 ∷ p.1 ∷ each pair_writes l) = omega arith in
        drop-drop (length (each pair_writes l)) 2 x ∙ ap (λ (n : ℕ). drop n x) e

-- where all pairs find room, the memory holds them and then what it held
pub kept_whole : (m : List ℕ) (l : List Pair) → 2 * length l ≤ length m → (kept (state 0 m) l).memory ≡ over (each pair_writes l) m
kept_whole m l h = kept_behind 0 [] m l refl h
