-- The loop that copies the first numbers of a list over another. Assumes nothing.
use mathlib.Core.Path.{◌≡◌, refl, sym, ap, ◌∙◌}
use mathlib.Core.List.{List, [], ◌∷◌, ◌++◌, append_assoc}
use Prim.Native.Nat.{ℕ, suc, ◌+◌, ◌≤◌, ◌<◌}
use native.Mathlib.Numerals.{add-one}
use native.Mathlib.Omega.{arith}
use lib.ListN.{length, take, drop, get_or, set, length-set}
use lib.Seq.{take-suc, drop-cons, set_at, length-take-le}
use Rattle.laws.specs.Lists.{over}

-- the first i numbers are copied
pub record Copied (list out₀ : List ℕ) (count : ℕ) (out : List ℕ) (i : ℕ) : Type 0 where
  pub so_far : out ≡ take i list ++ drop i out₀
  pub most : i ≤ count
  pub sized : length out ≡ length out₀

module _ (list out₀ : List ℕ) (count : ℕ) (fits : count ≤ length list) (room : count ≤ length out₀) where
  pub copied_none : Copied list out₀ count out₀ 0
  copied_none = record { so_far = refl; most = omega arith; sized = refl }

  pub copied_one : (out : List ℕ) (i : ℕ) → Copied list out₀ count out i → i < count → (out' : List ℕ) → out' ≡ set out i (get_or list i 0)
      → Copied list out₀ count out' (i + 1)
  copied_one out i p h out' put =
      let e : length (take i list) ≡ i = length-take-le i list (omega arith) in
      let n : i < length list = omega arith in
      let m : i < length out₀ = omega arith in
      record {
        so_far = put
            ∙ ap (λ (l : List ℕ). set l i (get_or list i 0)) (p.so_far ∙ ap (λ (l : List ℕ). take i list ++ l) (drop-cons out₀ i 0 m))
            ∙ set_at (take i list) (get_or out₀ i 0) (drop (suc i) out₀) (get_or list i 0) i e
            ∙ sym (append_assoc (take i list) (get_or list i 0 ∷ []) (drop (suc i) out₀))
            ∙ ap (λ (l : List ℕ). l ++ drop (suc i) out₀) (sym (take-suc list i 0 n))
            ∙ ap (λ (k : ℕ). take k list ++ drop k out₀) (sym (add-one i));
        most = omega arith;
        sized = ap length put ∙ length-set out i (get_or list i 0) ∙ p.sized;
      }

  pub copied_all : (out : List ℕ) (i : ℕ) → Copied list out₀ count out i → count ≤ i → out ≡ over (take count list) out₀
  copied_all out i p h =
      let m = p.most in
      let e : i ≡ count = omega arith in
      let k : count ≡ length (take count list) = sym (length-take-le count list fits) in
      p.so_far ∙ ap (λ (n : ℕ). take n list ++ drop n out₀) e ∙ ap (λ (n : ℕ). take count list ++ drop n out₀) k
