-- A range of m×n numbers as m rows of n; concatenations of concatenations; a test that passes in one window of a range. Assumes nothing.
use mathlib.Core.Path.{◌≡◌, refl, sym, ap, ap₂, ◌∙◌}
use mathlib.Core.Bool.{Bool, true, false}
use mathlib.Core.List.{List, [], ◌∷◌, ◌++◌, map, append-nil}
use Prim.Native.Nat.{ℕ, zero, suc, ◌+◌, ◌*◌, ◌/◌, ◌%◌, ◌≤◌, ◌<◌}
use native.Mathlib.Nat.{zero-add, add-zero, add-suc, suc-mul, zero-mul}
use native.Mathlib.Omega.{arith}
use lib.Arith.{digits_div, digits_mod}
use Rattle.laws.specs.Lists.{keep, filter, from, up_to, each, only}
use Rattle.laws.proofs.Lists.{each_append}
use Rattle.laws.proofs.Filters.{filter_all}
use Rattle.laws.proofs.Boxes.{filter_window}
use Rattle.laws.proofs.Ranges.{mem_from, from_append, from_snoc, each_from}

module _ {A : Type 0} where
  -- what a list of lists' elements bring
  pub each_each : {B C : Type 0} (f : B → List A) (h : C → List B) (l : List C) → each f (each h l) ≡ each (λ x. each f (h x)) l
  each_each f h [] = refl
  each_each f h (x ∷ l) = each_append f (h x) (each h l) ∙ ap (λ (t : List A). each f (h x) ++ t) (each_each f h l)

  pub each_map : {B C : Type 0} (f : B → List A) (h : C → B) (l : List C) → each f (map h l) ≡ each (λ x. f (h x)) l
  each_map f h [] = refl
  each_map f h (x ∷ l) = ap (λ (t : List A). f (h x) ++ t) (each_map f h l)

  -- what stands alone, where a test passes
  pub each_alone : {B : Type 0} (f : B → List A) (b : Bool) (x : B) → each f (only b (x ∷ [])) ≡ only b (f x)
  each_alone f true x = append-nil (f x)
  each_alone f false x = refl

  -- a filter, element by element
  pub filter_is_each : (p : A → Bool) (l : List A) → filter p l ≡ each (λ x. only (p x) (x ∷ [])) l
  filter_is_each p [] = refl
  filter_is_each p (x ∷ l) = go (p x) (filter_is_each p l)
    where
      go : (b : Bool) → filter p l ≡ each (λ x. only (p x) (x ∷ [])) l → keep b x (filter p l) ≡ only b (x ∷ []) ++ each (λ x. only (p x) (x ∷ [])) l
      go true e = ap (λ (t : List A). x ∷ t) e
      go false e = e

  each_shift : (f : ℕ → List A) (a i m : ℕ) → each f (from (a + i) m) ≡ each (λ k. f (a + k)) (from i m)
  each_shift f a i zero = refl
  each_shift f a i (suc m) =
      ap (λ (t : List A). f (a + i) ++ t) (ap (λ (n : ℕ). each f (from n m)) (sym (add-suc a i)) ∙ each_shift f a (suc i) m)

  -- m rows of n numbers are one range
  pub each_rows : (f : ℕ → ℕ → List A) (m n : ℕ) → each (λ a. each (f a) (up_to n)) (up_to m) ≡ each (λ k. f (k / n) (k % n)) (up_to (m * n))
  each_rows f zero n = rw zero-mul
  each_rows f (suc m) n =
      ap (each (λ a. each (f a) (up_to n))) (from_snoc 0 m)
      ∙ each_append (λ a. each (f a) (up_to n)) (up_to m) ((0 + m) ∷ [])
      ∙ ap₂ ◌++◌ (each_rows f m n) (append-nil (each (f (0 + m)) (up_to n)) ∙ ap (λ (a : ℕ). each (f a) (up_to n)) (zero-add m) ∙ last)
      ∙ sym (each_append (λ k. f (k / n) (k % n)) (up_to (m * n)) (from (m * n) n))
      ∙ ap (each (λ k. f (k / n) (k % n))) (rejoin (m * n))
      ∙ ap (λ (k : ℕ). each (λ k. f (k / n) (k % n)) (up_to k)) (sym (suc-mul m n))
    where
      rejoin : (k : ℕ) → up_to k ++ from k n ≡ up_to (k + n)
      rejoin k = sym (from_append 0 k n ∙ rw zero-add)

      last : each (f m) (up_to n) ≡ each (λ k. f (k / n) (k % n)) (from (m * n) n)
      last =
          each_from (f m) (λ j. f ((m * n + j) / n) ((m * n + j) % n)) 0 n
          (λ j _ h. let l : j < n = omega arith in rw (digits_div m l, digits_mod m l))
          ∙ sym (each_shift (λ k. f (k / n) (k % n)) (m * n) 0 n)
          ∙ rw (add-zero (m * n))

-- a test that passes in one window of a range leaves that window
pub window : (p : ℕ → Bool) (a k m : ℕ) → ((j : ℕ) → j < a → p j ≡ false) → ((j : ℕ) → a ≤ j → j < a + k → p j ≡ true)
    → ((j : ℕ) → a + k ≤ j → j < a + k + m → p j ≡ false) → filter p (up_to (a + k + m)) ≡ from a k
window p a k m below here above =
    filter_window p 0 a k m (λ j _ h. below j (omega arith)) (λ j g h. above j (omega arith) (omega arith))
    ∙ ap (λ (n : ℕ). filter p (from n k)) (zero-add a)
    ∙ filter_all p (from a k) (λ j n. let b = mem_from a k n in here j b.0 b.1)
