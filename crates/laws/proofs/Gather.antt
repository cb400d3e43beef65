-- All of a list in ascending order, each key once. Assumes nothing.
use mathlib.Core.Path.{◌≡◌, refl, sym, ap}
use mathlib.Core.Logic.{◌⊎◌, inl, inr}
use mathlib.Core.Bool.{Bool, true, false, cond}
use mathlib.Core.List.Memᴰ
use mathlib.Core.List.{List, [], ◌∷◌, Memᴰ}
use Prim.Native.Nat.{ℕ, ◌≤◌, ◌<◌}
use native.Mathlib.Nat.{le_trans, le_of_eq, lt_irrefl}
use native.Mathlib.Omega.{arith}
use lib.Dec.{ltb, eqb}
use borrow.Author.Tests.{ltb-true, ltb-false, eqb-true, eqb-false}
use Rattle.laws.proofs.Apart.{Apart, has_none}
use Rattle.laws.proofs.Ordered.{Above, above_mem}

module _ {A : Type 0} (key : A → ℕ) where
  abbrev pub put : A → List A → List A
  put a [] = a ∷ []
  put a (b ∷ l) = cond (ltb (key a) (key b)) (a ∷ b ∷ l) (cond (eqb (key a) (key b)) (b ∷ l) (b ∷ put a l))

  abbrev pub gather : List A → List A
  gather [] = []
  gather (a ∷ l) = put a (gather l)

  pub put_above : (k : ℕ) (a : A) (l : List A) → k < key a → Above key k l → Above key k (put a l)
  put_above k a [] h t = (h, tt)
  put_above k a (b ∷ l) h t = go (ltb (key a) (key b)) refl (eqb (key a) (key b)) refl (λ u. put_above (key b) a l u t.1)
    where
      go : (c : Bool) → ltb (key a) (key b) ≡ c → (d : Bool) → eqb (key a) (key b) ≡ d → (key b < key a → Above key (key b) (put a l))
          → Above key k (cond c (a ∷ b ∷ l) (cond d (b ∷ l) (b ∷ put a l)))
      go true e d f below = (h, (ltb-true _ _ e, t.1))
      go false e true f below = t
      go false e false f below = (t.0, below (lt_of (ltb-false _ _ e) (eqb-false _ _ f)))
        where
          lt_of : key b ≤ key a → (key a ≡ key b → ⊥) → key b < key a
          lt_of u v = omega arith

  pub gather_above : (k : ℕ) (l : List A) → ((z : A) → Memᴰ z l → k < key z) → Above key k (gather l)
  gather_above k [] h = tt
  gather_above k (a ∷ l) h = put_above k a (gather l) (h a (Memᴰ.head refl)) (gather_above k l (λ z m. h z (Memᴰ.tail m)))

  mem_put : (y : A) {z : A} (l : List A) → Memᴰ z (put y l) → (z ≡ y) ⊎ Memᴰ z l
  mem_put y [] m = Memᴰ.cases_cons m
  mem_put y {z} (b ∷ l) m = go (ltb (key y) (key b)) (eqb (key y) (key b)) m (λ n. mem_put y l n)
    where
      up : (z ≡ y) ⊎ Memᴰ z l → (z ≡ y) ⊎ Memᴰ z (b ∷ l)
      up (inl e) = inl e
      up (inr n) = inr (Memᴰ.tail n)

      second : (z ≡ b) ⊎ Memᴰ z (put y l) → (Memᴰ z (put y l) → (z ≡ y) ⊎ Memᴰ z l) → (z ≡ y) ⊎ Memᴰ z (b ∷ l)
      second (inl e) below = inr (Memᴰ.head e)
      second (inr n) below = up (below n)

      go : (t u : Bool) → Memᴰ z (cond t (y ∷ b ∷ l) (cond u (b ∷ l) (b ∷ put y l))) → (Memᴰ z (put y l) → (z ≡ y) ⊎ Memᴰ z l)
          → (z ≡ y) ⊎ Memᴰ z (b ∷ l)
      go true u n below = Memᴰ.cases_cons n
      go false true n below = inr n
      go false false n below = second (Memᴰ.cases_cons n) below

  pub gather_sound : {z : A} (l : List A) → Memᴰ z (gather l) → Memᴰ z l
  gather_sound [] m = m
  gather_sound {z} (a ∷ l) m = go (mem_put a (gather l) m) (λ n. gather_sound l n)
    where
      go : (z ≡ a) ⊎ Memᴰ z (gather l) → (Memᴰ z (gather l) → Memᴰ z l) → Memᴰ z (a ∷ l)
      go (inl e) below = Memᴰ.head e
      go (inr n) below = Memᴰ.tail (below n)

  put_old : (y : A) {z : A} (l : List A) → Memᴰ z l → Memᴰ z (put y l)
  put_old y {z = z} [] m = elim m [ ]
  put_old y {z} (b ∷ l) m = go (ltb (key y) (key b)) (eqb (key y) (key b)) (Memᴰ.cases_cons m) (λ n. put_old y l n)
    where
      go : (t u : Bool) → (z ≡ b) ⊎ Memᴰ z l → (Memᴰ z l → Memᴰ z (put y l)) → Memᴰ z (cond t (y ∷ b ∷ l) (cond u (b ∷ l) (b ∷ put y l)))
      go true u n below = Memᴰ.tail m
      go false true n below = m
      go false false (inl e) below = Memᴰ.head e
      go false false (inr n) below = Memᴰ.tail (below n)

  -- where one key is one thing
  put_new : (y : A) (l : List A) → ((z : A) → Memᴰ z l → key y ≡ key z → y ≡ z) → Memᴰ y (put y l)
  put_new y [] h = Memᴰ.head refl
  put_new y (b ∷ l) h = go (ltb (key y) (key b)) (eqb (key y) (key b)) refl (put_new y l (λ z m. h z (Memᴰ.tail m)))
    where
      go : (t u : Bool) → eqb (key y) (key b) ≡ u → Memᴰ y (put y l) → Memᴰ y (cond t (y ∷ b ∷ l) (cond u (b ∷ l) (b ∷ put y l)))
      go true u e n = Memᴰ.head refl
      go false true e n = Memᴰ.head (h b (Memᴰ.head refl) (eqb-true _ _ e))
      go false false e n = Memᴰ.tail n

  pub gather_complete : {z : A} (l : List A) → ((a b : A) → Memᴰ a l → Memᴰ b l → key a ≡ key b → a ≡ b) → Memᴰ z l → Memᴰ z (gather l)
  gather_complete {z = z} [] h x'' = elim x'' [ ]
  gather_complete (a ∷ l) h (Memᴰ.head e) =
      rw e (put_new a (gather l) (λ z m. h a z (Memᴰ.head refl) (Memᴰ.tail (gather_sound l m))))
  gather_complete (a ∷ l) h (Memᴰ.tail m) =
      put_old a (gather l) (gather_complete l (λ b c p r. h b c (Memᴰ.tail p) (Memᴰ.tail r)) m)

  -- in order, and one thing for each slot
  pub apart_inj : (slot : A → ℕ) (k : ℕ) (l : List A) → Above key k l → ((a b : A) → Memᴰ a l → Memᴰ b l → slot a ≡ slot b → a ≡ b) → Apart slot l
  apart_inj slot k [] t h = tt
  apart_inj slot k (x ∷ l) t h = (
    has_none slot x l (λ y m e. lt_irrefl (key x) (le_trans (above_mem key l t.1 m) (le_of_eq (ap key (sym (h x y (Memᴰ.head refl) (Memᴰ.tail m) e)))))),
    apart_inj slot (key x) l t.1 (λ a b p r. h a b (Memᴰ.tail p) (Memᴰ.tail r)),
  )
