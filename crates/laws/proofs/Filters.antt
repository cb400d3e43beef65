-- Filters that keep all or one; the first number of a range that passes a test; tests that some element passes. Assumes nothing.
use mathlib.Core.Path.{◌≡◌, refl, sym, ap, ◌∙◌}
use mathlib.Core.Bool.{Bool, true, false, ◌||◌, or-true}
use mathlib.Core.List.Memᴰ
use mathlib.Core.List.{List, [], ◌∷◌, Memᴰ}
use Prim.Native.Nat.{ℕ, zero, suc, ◌+◌, ◌≤◌, ◌<◌}
use native.Mathlib.Nat.{lt_irrefl}
use native.Mathlib.Omega.{arith}
use lib.Dec.{eqb}
use lib.ListN.{take}
use borrow.Author.Tests.{eqb-true, eq-eqb, ne_eqb}
use Rattle.laws.specs.Lists.{keep, filter, from, any, times}
use Rattle.laws.proofs.Tests.{by_le, clash}
use Rattle.laws.proofs.Apart.{has_not, Apart, self}

module _ {A : Type 0} where
  pub filter_all : (p : A → Bool) (l : List A) → ((z : A) → Memᴰ z l → p z ≡ true) → filter p l ≡ l
  filter_all p [] h = refl
  filter_all p (x ∷ l) h = rw (h x (Memᴰ.head refl)) (ap (λ (m : List A). x ∷ m) (filter_all p l (λ z m. h z (Memᴰ.tail m))))

  -- ---- some element passes

  pub any_mem : (p : A → Bool) {z : A} (l : List A) → Memᴰ z l → p z ≡ true → any p l ≡ true
  any_mem p {z = z} [] x'' t = elim x'' [ ]
  any_mem p {z} (x ∷ l) (Memᴰ.head e) t = rw (ap p (sym e) ∙ t)
  any_mem p (x ∷ l) (Memᴰ.tail m) t = rw (any_mem p l m t, or-true (p x))

  pub mem_any : (p : A → Bool) (l : List A) → any p l ≡ true → (z : A) × Memᴰ z l × (p z ≡ true)
  mem_any p [] e = clash (sym e)
  mem_any p (x ∷ l) e = go (p x) refl e (λ h. mem_any p l h)
    where
      go : (b : Bool) → p x ≡ b → (b || any p l) ≡ true → (any p l ≡ true → (z : A) × Memᴰ z l × (p z ≡ true)) → (z : A) × Memᴰ z (x ∷ l) × (p z ≡ true)
      go true f t below = (x, Memᴰ.head refl, f)
      go false f t below = let r = below t in (r.0, Memᴰ.tail r.1, r.2)

pub any_number : (i : ℕ) (l : List ℕ) → any (eqb i) l ≡ true → Memᴰ i l
any_number i l e = let r = mem_any (eqb i) l e in same r.1 (eqb-true i r.0 r.2)
  where
    same : {k : ℕ} → Memᴰ k l → i ≡ k → Memᴰ i l
    same m f = rw f m

pub number_any : (i : ℕ) (l : List ℕ) → Memᴰ i l → any (eqb i) l ≡ true
number_any i l m = any_mem (eqb i) l m (eq-eqb i i refl)

-- a number that stands in a list of which no two are equal stands there once
pub times_one : (i : ℕ) (l : List ℕ) → Apart self l → Memᴰ i l → times i l ≡ 1
times_one i [] a x'' = elim x'' [ ]
times_one i (x ∷ l) a (Memᴰ.head e) = rw (eq-eqb i x e) (ap suc (none l (λ k m f. has_not self x l a.0 (Memᴰ.cast (sym (f ∙ e)) m))))
  where
    none : (l : List ℕ) → ((k : ℕ) → Memᴰ k l → k ≡ i → ⊥) → times i l ≡ 0
    none [] h = refl
    none (y ∷ l) h = rw (ne_eqb i y (λ f. h y (Memᴰ.head refl) (sym f))) (none l (λ k m f. h k (Memᴰ.tail m) f))
times_one i (x ∷ l) a (Memᴰ.tail m) = rw (ne_eqb i x (λ e. has_not self x l a.0 (Memᴰ.cast (sym e) m))) (times_one i l a.1 m)

-- ---- the first number of a range that passes

module _ (p : ℕ → Bool) where
  abbrev pub First : ℕ → ℕ → ℕ → Type 0
  First a n l = (a ≤ l) × (l < a + n) × (p l ≡ true) × ((m : ℕ) → a ≤ m → m < l → p m ≡ false)

  pub first_in : (a n l : ℕ) → First a n l → take 1 (filter p (from a n)) ≡ l ∷ []
  first_in a zero l f = absurd (lt_irrefl l (omega (arith, f.0, f.1)))
  first_in a (suc n) l f =
      by_le l a
      (λ h. let e : a ≡ l = omega (arith, f.0) in rw (e, f.2))
      (λ h. rw (f.3 a (omega arith) h) (first_in (suc a) n l (h, omega (arith, f.1), f.2, λ m u v. f.3 m (omega arith) v)))

  pub in_first : (a n l : ℕ) → Memᴰ l (take 1 (filter p (from a n))) → First a n l
  in_first a zero l m = absurd (Memᴰ.not-nil m)
  in_first a (suc n) l m = go (p a) refl m (λ k. in_first (suc a) n l k)
    where
      go : (b : Bool) → p a ≡ b → Memᴰ l (take 1 (keep b a (filter p (from (suc a) n)))) → (Memᴰ l (take 1 (filter p (from (suc a) n))) → First (suc a) n l) → First a (suc n) l
      go true e k below =
          let f : l ≡ a = Memᴰ.eq_of_singleton k in
          (omega arith, omega arith, ap p f ∙ e, λ m u v. absurd (lt_irrefl m (omega arith)))
      go false e k below =
          let r = below k in
          (omega (arith, r.0), omega (arith, r.1), r.2, λ m u v. by_le m a (λ h. let f : m ≡ a = omega arith in ap p f ∙ e) (λ h. r.3 m h v))
