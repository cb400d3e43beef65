-- Lists of which no two elements have one key. Assumes nothing.
use mathlib.Core.Path.{◌≡◌, refl, sym, ap, ◌∙◌}
use mathlib.Core.Logic.{◌⊎◌, inl, inr}
use mathlib.Core.Bool.{Bool, true, false, ◌||◌, or-true}
use mathlib.Core.List.Memᴰ
use mathlib.Core.List.{List, [], ◌∷◌, ◌++◌, map, Memᴰ}
use Prim.Native.Nat.{ℕ, zero, suc, ◌≤◌, ◌<◌}
use native.Mathlib.Nat.{lt_irrefl, le_of_eq}
use native.Mathlib.Omega.{arith}
use lib.Dec.{eqb}
use borrow.Author.Tests.{ne_eqb, eq-eqb, eqb-true}
use Rattle.laws.specs.Lists.{keep, filter, from, each}
use Rattle.laws.proofs.Members.{mem_filter, mem_each}
use Rattle.laws.proofs.Ranges.{mem_from}

module _ {A : Type 0} (key : A → ℕ) where
  -- something of z's key stands in the list
  abbrev pub has : A → List A → Bool
  has z [] = false
  has z (y ∷ l) = eqb (key z) (key y) || has z l

  pub has_none : (z : A) (l : List A) → ((y : A) → Memᴰ y l → key z ≡ key y → ⊥) → has z l ≡ false
  has_none z [] h = refl
  has_none z (y ∷ l) h =
      rw (ne_eqb (key z) (key y) (h y (Memᴰ.head refl))) (has_none z l (λ y' m. h y' (Memᴰ.tail m)))

  pub has_mem : (z : A) (l : List A) → Memᴰ z l → has z l ≡ true
  has_mem z [] x' = elim x' [ ]
  has_mem z (y ∷ l) (Memᴰ.head e) = rw (eq-eqb (key z) (key y) (ap key e))
  has_mem z (y ∷ l) (Memᴰ.tail m) = rw (has_mem z l m, or-true (eqb (key z) (key y)))

  pub mem_has : (z : A) (l : List A) → has z l ≡ true → (y : A) × Memᴰ y l × (key z ≡ key y)
  mem_has z [] e = let u : ◌≡◌ {A = ℕ} 0 1 = cc in absurd (lt_irrefl 0 (le_of_eq (sym u)))
  mem_has z (y ∷ l) e = go (eqb (key z) (key y)) refl (λ h. mem_has z l h)
    where
      go : (b : Bool) → eqb (key z) (key y) ≡ b → (has z l ≡ true → (y' : A) × Memᴰ y' l × (key z ≡ key y'))
          → (y' : A) × Memᴰ y' (y ∷ l) × (key z ≡ key y')
      go true f below = (y, Memᴰ.head refl, eqb-true (key z) (key y) f)
      go false f below =
          let r : (y' : A) × Memᴰ y' l × (key z ≡ key y') = below (rw f at e) in
          (r.0, Memᴰ.tail r.1, r.2)

  pub has_not : (z : A) (l : List A) → has z l ≡ false → Memᴰ z l → ⊥
  has_not z l e m = let u : ◌≡◌ {A = ℕ} 0 1 = cc (has_mem z l m) in lt_irrefl 0 (le_of_eq (sym u))

  -- no two of one key
  abbrev pub Apart : List A → Type 0
  Apart [] = Unit {0}
  Apart (y ∷ l) = (has y l ≡ false) × Apart l

  pub apart_append : (l m : List A) → Apart l → Apart m → ((y z : A) → Memᴰ y l → Memᴰ z m → key y ≡ key z → ⊥) → Apart (l ++ m)
  apart_append [] m a b h = b
  apart_append (x ∷ l) m a b h = (
    has_none x (l ++ m) (λ y n e. go y e (Memᴰ.append_cases l n)),
    apart_append l m a.1 b (λ y z p r. h y z (Memᴰ.tail p) r),
  )
    where
      in_l : (y : A) → key x ≡ key y → Memᴰ y l → has x l ≡ true
      in_l y e p = has_key l p
        where
          has_key : (k : List A) → Memᴰ y k → has x k ≡ true
          has_key [] x5 = elim x5 [ ]
          has_key (w ∷ k) (Memᴰ.head f) = rw (eq-eqb (key x) (key w) (e ∙ ap key f))
          has_key (w ∷ k) (Memᴰ.tail r) = rw (has_key k r, or-true (eqb (key x) (key w)))

      go : (y : A) → key x ≡ key y → Memᴰ y l ⊎ Memᴰ y m → ⊥
      go y e (inl p) = let u : ◌≡◌ {A = ℕ} 0 1 = cc (in_l y e p, a.0) in lt_irrefl 0 (le_of_eq (sym u))
      go y e (inr p) = h x y (Memᴰ.head refl) p e

-- ---- numbers

abbrev pub self : ℕ → ℕ
self n = n

pub apart_filter : (p : ℕ → Bool) (i m : ℕ) → Apart self (filter p (from i m))
apart_filter p i zero = tt
apart_filter p i (suc m) = go (p i) (apart_filter p (suc i) m)
  where
    go : (b : Bool) → Apart self (filter p (from (suc i) m)) → Apart self (keep b i (filter p (from (suc i) m)))
    go true a = (has_none self i (filter p (from (suc i) m)) (λ y n e. lt_irrefl i (above y e (mem_from (suc i) m (mem_filter p (from (suc i) m) n).0).0)), a)
      where
        above : (y : ℕ) → i ≡ y → suc i ≤ y → i < i
        above y e h = omega arith
    go false a = a

pub apart_each : (f : ℕ → List ℕ) (l : List ℕ) → Apart self l → ((k : ℕ) → Apart self (f k))
    → ((k m i : ℕ) → Memᴰ k l → Memᴰ m l → Memᴰ i (f k) → Memᴰ i (f m) → k ≡ m) → Apart self (each f l)
apart_each f [] a b h = tt
apart_each f (k ∷ l) a b h =
    apart_append self (f k) (each f l) (b k) (apart_each f l a.1 b (λ k m i p r. h k m i (Memᴰ.tail p) (Memᴰ.tail r)))
    (λ y z p r e. go y z p e (mem_each f l r))
  where
    go : (y z : ℕ) → Memᴰ y (f k) → y ≡ z → (x : ℕ) × Memᴰ x l × Memᴰ z (f x) → ⊥
    go y z p e r = has_not self k l a.0 (Memᴰ.cast (h k r.0 y (Memᴰ.head refl) (Memᴰ.tail r.1) p (Memᴰ.cast e r.2)) r.1)

pub apart_map : {A : Type 0} (key : A → ℕ) (f : ℕ → A) (l : List ℕ) → Apart self l
    → ((a b : ℕ) → Memᴰ a l → Memᴰ b l → key (f a) ≡ key (f b) → a ≡ b) → Apart key (map f l)
apart_map key f [] a h = tt
apart_map {A} key f (x ∷ l) a h = (
  has_none key (f x) (map f l) (λ y n e. go y e (Memᴰ.of_map f l n)),
  apart_map key f l a.1 (λ b c p r. h b c (Memᴰ.tail p) (Memᴰ.tail r)),
)
  where
    go : (y : A) → key (f x) ≡ key y → (b : ℕ) × Memᴰ b l × (f b ≡ y) → ⊥
    go y e r = has_not self x l a.0 (Memᴰ.cast (h x r.0 (Memᴰ.head refl) (Memᴰ.tail r.1) (e ∙ ap key (sym r.2))) r.1)
