-- Blocks of sixteen numbers, one for each number that passes a test, are a filter of one range. Assumes nothing.
use mathlib.Core.Path.{◌≡◌, refl, sym, ap, ap₂, ◌∙◌}
use mathlib.Core.Bool.{Bool, true, false, ◌&&◌}
use mathlib.Core.List.{List, [], ◌∷◌, ◌++◌, append-nil}
use Prim.Native.Nat.{ℕ, zero, suc, ◌+◌, ◌*◌, ◌/◌}
use native.Mathlib.Nat.{mul-suc, zero-add}
use native.Mathlib.Omega.{arith}
use Rattle.laws.specs.Lists.{keep, filter, from, up_to, each, only}
use Rattle.laws.proofs.Lists.{filter_append, each_append, only_filter}
use Rattle.laws.proofs.Ranges.{filter_from, from_append, from_snoc}

module _ (v p : ℕ → Bool) where
  abbrev block : ℕ → List ℕ
  block t = filter p (from (16 * t) 16)

  one_block : (t : ℕ) → each block (filter v (t ∷ [])) ≡ filter (λ k. v (k / 16) && p k) (from (16 * t) 16)
  one_block t =
      go (v t) ∙ only_filter (v t) p (from (16 * t) 16)
      ∙ filter_from (λ k. v t && p k) (λ k. v (k / 16) && p k) (16 * t) 16 (λ k l h. let e : t ≡ k / 16 = omega arith in ap (λ (n : ℕ). v n && p k) e)
    where
      go : (b : Bool) → each block (keep b t []) ≡ only b (block t)
      go true = append-nil (block t)
      go false = refl

  pub blocks : (m : ℕ) → each block (filter v (up_to m)) ≡ filter (λ k. v (k / 16) && p k) (up_to (16 * m))
  blocks zero = refl
  blocks (suc m) =
      ap (λ (l : List ℕ). each block (filter v l)) (from_snoc 0 m)
      ∙ ap (each block) (filter_append v (from 0 m) ((0 + m) ∷ []))
      ∙ each_append block (filter v (from 0 m)) (filter v ((0 + m) ∷ []))
      ∙ ap₂ ◌++◌ (blocks m) (ap (λ (n : ℕ). each block (filter v (n ∷ []))) (zero-add m) ∙ one_block m)
      ∙ sym (filter_append (λ k. v (k / 16) && p k) (from 0 (16 * m)) (from (16 * m) 16))
      ∙ ap (filter (λ k. v (k / 16) && p k)) (rejoin m)
    where
      rejoin : (m : ℕ) → from 0 (16 * m) ++ from (16 * m) 16 ≡ from 0 (16 * suc m)
      rejoin m = rw (mul-suc 16 m, from_append 0 (16 * m) 16, zero-add (16 * m)) refl
