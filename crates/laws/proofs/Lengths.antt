-- How long concatenations and filters are: bounds by sums, by products, and by the whole of which they are a beginning. Assumes nothing.
use mathlib.Core.Path.{◌≡◌, refl, sym, ap, ◌∙◌}
use mathlib.Core.Bool.{Bool, true, false}
use mathlib.Core.List.{List, [], ◌∷◌}
use Prim.Native.Nat.{ℕ, suc, ◌+◌, ◌-◌, ◌*◌, ◌≤◌, ◌<◌, zero-le}
use native.Mathlib.Nat.{le_trans, le_of_eq, le-add_right, add-le-add, mul-add, add-mul, mul-zero, zero-mul}
use native.Mathlib.Omega.{arith}
use lib.ListN.{length, length-append}
use Rattle.laws.specs.Lists.{keep, filter, up_to, from, each, total}
use Rattle.laws.proofs.Lists.{each_append}
use Rattle.laws.proofs.Ranges.{from_append, each_snoc}

module _ {A : Type 0} where
  pub length_filter : (p : A → Bool) (l : List A) → length (filter p l) ≤ length l
  length_filter p [] = zero-le
  length_filter p (x ∷ l) = go (p x) (length_filter p l)
    where
      go : (b : Bool) → length (filter p l) ≤ length l → length (keep b x (filter p l)) ≤ suc (length l)
      go true h = omega arith
      go false h = omega arith

  -- at most a sum of what each is at most
  pub length_sum : {B : Type 0} (f : B → List A) (h : B → ℕ) (l : List B) → ((x : B) → length (f x) ≤ h x) → length (each f l) ≤ total h l
  length_sum f h [] k = zero-le
  length_sum f h (x ∷ l) k = rw (length-append (f x) (each f l)) (add-le-add (k x) (length_sum f h l k))

  -- and that sum, where each is just so long
  pub length_total : {B : Type 0} (f : B → List A) (l : List B) → length (each f l) ≡ total (λ x. length (f x)) l
  length_total f [] = refl
  length_total f (x ∷ l) = length-append (f x) (each f l) ∙ ap (λ (n : ℕ). length (f x) + n) (length_total f l)

  -- some at the places of a filter are no more than all
  pub length_some : {B : Type 0} (f : B → List A) (p : B → Bool) (l : List B) → length (each f (filter p l)) ≤ length (each f l)
  length_some f p [] = zero-le
  length_some {B} f p (x ∷ l) = rw (length-append (f x) (each f l)) (go (p x) (length_some f p l))
    where
      go : (b : Bool) → length (each f (filter p l)) ≤ length (each f l) → length (each f (keep b x (filter p l))) ≤ length (f x) + length (each f l)
      go true h = rw (length-append (f x) (each f (filter p l))) (omega arith)
      go false h = omega arith

  -- list k of a range and all before it are no more than all
  pub beginning : (f : ℕ → List A) (n k : ℕ) → k < n → length (each f (up_to k)) + length (f k) ≤ length (each f (up_to n))
  beginning f n k h =
      let e : n ≡ k + 1 + (n - (k + 1)) = omega arith in
      rw (
        e,
        from_append 0 (k + 1) (n - (k + 1)),
        each_append f (up_to (k + 1)) (from (0 + (k + 1)) (n - (k + 1))),
        length-append (each f (up_to (k + 1))) (each f (from (0 + (k + 1)) (n - (k + 1)))),
        each_snoc f k,
        length-append (each f (up_to k)) (f k),
      )
      (le-add_right _ _)

total_times : {B : Type 0} (c : ℕ) (h : B → ℕ) (l : List B) → total (λ x. c * h x) l ≡ c * total h l
total_times c h [] = sym (mul-zero c)
total_times c h (x ∷ l) = ap (λ (n : ℕ). c * h x + n) (total_times c h l) ∙ sym (mul-add c (h x) (total h l))

times_total : {B : Type 0} (h : B → ℕ) (c : ℕ) (l : List B) → total (λ x. h x * c) l ≡ total h l * c
times_total h c [] = sym (zero-mul c)
times_total h c (x ∷ l) = ap (λ (n : ℕ). h x * c + n) (times_total h c l) ∙ sym (add-mul (h x) (total h l) c)

module _ {A B C : Type 0} where
  -- some of all pairs are at most a product of two sums
  pub length_product : (p : A → B → Bool) (f : A → B → List C) (x : A → ℕ) (y : B → ℕ) (l : List A) (m : List B)
      → ((a : A) (b : B) → length (f a b) ≤ x a * y b) → length (each (λ a. each (f a) (filter (p a) m)) l) ≤ total x l * total y m
  length_product p f x y l m h =
      le_trans
      (length_sum (λ a. each (f a) (filter (p a) m)) (λ a. x a * total y m) l
      (λ a.
      le_trans (length_some (f a) (p a) m)
      (le_trans (length_sum (f a) (λ b. x a * y b) m (h a)) (le_of_eq (total_times (x a) y m)))))
      (le_of_eq (times_total x (total y m) l))
