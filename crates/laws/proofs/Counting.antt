-- Counting: pairs by either side, a test that one number can pass, and numbers of which no two are equal. Assumes nothing.
use mathlib.Core.Path.{◌≡◌, refl, sym, ap, ◌∙◌}
use mathlib.Core.Bool.{Bool, true, false}
use mathlib.Core.List.{List, [], ◌∷◌, Memᴰ}
use Prim.Native.Nat.{ℕ, zero, suc, ◌+◌, ◌*◌, ◌≤◌, ◌<◌, zero-le, suc-le-suc}
use native.Mathlib.Nat.{le_trans, le_refl, le_of_eq, lt_irrefl, add-zero, zero-add, add_comm, add-le-add, suc-mul, mul-one}
use native.Mathlib.Numerals.{one-add}
use native.Mathlib.Omega.{arith}
use lib.Dec.{eqb}
use lib.ListN.{length, length-append}
use borrow.Author.Tests.{eqb-true, eq-eqb, ne_eqb}
use Rattle.laws.specs.Lists.{keep, filter, from, up_to, each}
use Rattle.laws.proofs.Tests.{by_le, neither}
use Rattle.laws.proofs.Ranges.{length_from}
use Rattle.laws.proofs.Apart.{has, Apart}

module _ {A B : Type 0} (p : B → A → Bool) where
  cons_count : (x : A) (l : List A) (ks : List B)
      → length (each (λ k. filter (p k) (x ∷ l)) ks) ≡ length (filter (λ k. p k x) ks) + length (each (λ k. filter (p k) l) ks)
  cons_count x l [] = sym (add-zero 0)
  cons_count x l (k ∷ ks) =
      length-append (keep (p k x) x (filter (p k) l)) (each (λ k. filter (p k) (x ∷ l)) ks)
      ∙ ap (λ (n : ℕ). length (keep (p k x) x (filter (p k) l)) + n) (cons_count x l ks)
      ∙ go (p k x)
      ∙ ap (λ (n : ℕ). length (keep (p k x) k (filter (λ k. p k x) ks)) + n) (sym (length-append (filter (p k) l) (each (λ k. filter (p k) l) ks)))
    where
      go : (b : Bool) → length (keep b x (filter (p k) l)) + (length (filter (λ k. p k x) ks) + length (each (λ k. filter (p k) l) ks))
          ≡ length (keep b k (filter (λ k. p k x) ks)) + (length (filter (p k) l) + length (each (λ k. filter (p k) l) ks))
      go true = omega arith
      go false = omega arith

  none_count : (ks : List B) → length (each (λ k. filter (p k) []) ks) ≡ 0
  none_count [] = refl
  none_count (k ∷ ks) = none_count ks

  -- counted by one or by the other
  pub swap_count : (l : List A) (ks : List B) → length (each (λ k. filter (p k) l) ks) ≡ length (each (λ x. filter (λ k. p k x) ks) l)
  swap_count [] ks = none_count ks
  swap_count (x ∷ l) ks =
      cons_count x l ks ∙ ap (λ (n : ℕ). length (filter (λ k. p k x) ks) + n) (swap_count l ks)
      ∙ sym (length-append (filter (λ k. p k x) ks) (each (λ x. filter (λ k. p k x) ks) l))

pub length_each : {A B : Type 0} (f : B → List A) (b : ℕ) (l : List B) → ((x : B) → length (f x) ≤ b) → length (each f l) ≤ length l * b
length_each f b [] h = zero-le
length_each f b (x ∷ l) h =
    rw (length-append (f x) (each f l), suc-mul (length l) b) (le_trans (add-le-add (h x) (length_each f b l h)) (le_of_eq (add_comm b (length l * b))))

-- a test that only one number can pass
pub at_most_one : (p : ℕ → Bool) (c i m : ℕ) → ((k : ℕ) → i ≤ k → k < i + m → p k ≡ true → k ≡ c) → length (filter p (from i m)) ≤ 1
at_most_one p c i zero h = zero-le
at_most_one p c i (suc m) h = go (p i) refl (at_most_one p c (suc i) m (λ k u v. h k (omega arith) (omega arith)))
  where
    nothing : (j n : ℕ) → c < j → i ≤ j → j + n ≤ i + suc m → filter p (from j n) ≡ []
    nothing j zero k u v = refl
    nothing j (suc n) k u v = test (p j) refl (nothing (suc j) n (omega arith) (omega arith) (omega arith))
      where
        test : (b : Bool) → p j ≡ b → filter p (from (suc j) n) ≡ [] → keep b j (filter p (from (suc j) n)) ≡ []
        test true e f = absurd (lt_irrefl c (le_trans k (le_of_eq (h j u (omega arith) e))))
        test false e f = f

    go : (b : Bool) → p i ≡ b → length (filter p (from (suc i) m)) ≤ 1 → length (keep b i (filter p (from (suc i) m))) ≤ 1
    go true e r = rw (nothing (suc i) m (suc-le-suc (le_of_eq (sym (h i (le_refl i) (omega arith) e)))) (omega arith) (omega arith)) (le_refl 1)
    go false e r = r

-- numbers below n of which no two are equal are at most n
pub pigeons : {A : Type 0} (slot : A → ℕ) (n : ℕ) (l : List A) → Apart slot l → ((x : A) → Memᴰ x l → slot x < n) → length l ≤ n
pigeons {A} slot n l a h =
    le_trans (le_of_eq (sym (each_one_long l h)))
    (le_trans (le_of_eq (sym (swap_count (λ k x. eqb k (slot x)) l (up_to n))))
    (le_trans (length_each (λ k. filter (λ x. eqb k (slot x)) l) 1 (up_to n) (λ k. once k l a)) (le_of_eq (mul-one (length (up_to n)) ∙ length_from 0 n))))
  where
    exactly : (x i m : ℕ) → i ≤ x → x < i + m → length (filter (λ k. eqb k x) (from i m)) ≡ 1
    exactly x i zero u v = absurd (lt_irrefl x (omega arith))
    exactly x i (suc m) u v =
        by_le x i
        (λ w. rw (eq-eqb i x (omega arith)) (ap suc (above x (suc i) m (omega arith))))
        (λ w. rw (ne_eqb i x (omega arith)) (exactly x (suc i) m w (omega arith)))
      where
        above : (x i m : ℕ) → x < i → length (filter (λ k. eqb k x) (from i m)) ≡ 0
        above x i zero w = refl
        above x i (suc m) w = rw (ne_eqb i x (omega arith)) (above x (suc i) m (omega arith))

    each_one_long : (l : List A) → ((x : A) → Memᴰ x l → slot x < n) → length (each (λ x. filter (λ k. eqb k (slot x)) (up_to n)) l) ≡ length l
    each_one_long [] h = refl
    each_one_long (x ∷ l) h =
        length-append (filter (λ k. eqb k (slot x)) (up_to n)) (each (λ x. filter (λ k. eqb k (slot x)) (up_to n)) l)
        ∙ rw (exactly (slot x) 0 n zero-le (rw zero-add (h x (Memᴰ.head refl))), each_one_long l (λ y m. h y (Memᴰ.tail m))) (one-add (length l))

    once : (k : ℕ) (l : List A) → Apart slot l → length (filter (λ x. eqb k (slot x)) l) ≤ 1
    once k [] a = zero-le
    once k (x ∷ l) a = go (eqb k (slot x)) refl (once k l a.1)
      where
        none_more : (m : List A) → has slot x m ≡ false → k ≡ slot x → filter (λ x. eqb k (slot x)) m ≡ []
        none_more [] e f = refl
        none_more (y ∷ m) e f =
            let u : (eqb (slot x) (slot y) ≡ false) × (has slot x m ≡ false) = neither (eqb (slot x) (slot y)) (has slot x m) e in
            rw (ap (λ (z : ℕ). eqb z (slot y)) f ∙ u.0) (none_more m u.1 f)

        go : (b : Bool) → eqb k (slot x) ≡ b → length (filter (λ x. eqb k (slot x)) l) ≤ 1 → length (keep b x (filter (λ x. eqb k (slot x)) l)) ≤ 1
        go true e r = rw (none_more l a.0 (eqb-true _ _ e)) (le_refl 1)
        go false e r = r
