-- Lists in ascending order of a key: a new element goes before the first greater one, and what stands is a filter of all that may. Assumes nothing.
use mathlib.Core.Path.{◌≡◌, refl, sym, ap, ◌∙◌}
use mathlib.Core.Logic.{◌⊎◌, inl, inr}
use mathlib.Core.Bool.{Bool, true, false, cond, ◌||◌, or-false, or_assoc}
use mathlib.Core.List.Memᴰ
use mathlib.Core.List.{List, [], ◌∷◌, Memᴰ}
use Prim.Native.Nat.{ℕ, suc, ◌+◌, ◌≤◌, ◌<◌}
use native.Mathlib.Nat.{le_refl, lt_of_le_of_lt, le_of_lt, add-zero, add-suc, suc-add}
use native.Mathlib.Omega.{arith}
use lib.Dec.{ltb, eqb}
use lib.ListN.{length}
use borrow.Author.Tests.{lt-ltb, le-ltb, eq-eqb, ne_eqb, eqb-false}
use Rattle.laws.specs.Lists.{keep, filter}
use Rattle.laws.proofs.Tests.{neither}
use Rattle.laws.proofs.Lists.{filter_same}
use Rattle.laws.proofs.Apart.{has}

module _ {A : Type 0} (key : A → ℕ) where
  -- in strictly ascending order of key, all above k
  abbrev pub Above : ℕ → List A → Type 0
  Above k [] = Unit {0}
  Above k (x ∷ l) = (k < key x) × Above (key x) l

  -- before the first greater one, else last
  abbrev pub ins : A → List A → List A
  ins a [] = a ∷ []
  ins a (b ∷ l) = cond (ltb (key a) (key b)) (a ∷ b ∷ l) (b ∷ ins a l)

  abbrev pub ins_all : List A → List A → List A
  ins_all [] l = l
  ins_all (a ∷ more) l = ins_all more (ins a l)

  above_less : {j k : ℕ} (l : List A) → j ≤ k → Above k l → Above j l
  above_less [] h t = tt
  above_less (x ∷ l) h t = (lt_of_le_of_lt h t.0, t.1)

  pub above_mem : (l : List A) {k : ℕ} {y : A} → Above k l → Memᴰ y l → k < key y
  above_mem [] {k = k} {y = y} t x'' = elim x'' [ ]
  above_mem (x ∷ l) {k} {y} t (Memᴰ.head e) = rw e t.0
  above_mem (x ∷ l) t (Memᴰ.tail m) = above_mem l (above_less l (le_of_lt t.0) t.1) m

  pub above_filter : (p : A → Bool) (k : ℕ) (l : List A) → Above k l → Above k (filter p l)
  above_filter p k [] t = tt
  above_filter p k (x ∷ l) t = go (p x) (above_filter p (key x) l t.1)
    where
      go : (b : Bool) → Above (key x) (filter p l) → Above k (keep b x (filter p l))
      go true r = (t.0, r)
      go false r = above_less (filter p l) (le_of_lt t.0) r

  -- one more row passes
  abbrev pub also : (A → Bool) → A → A → Bool
  also p y z = p z || eqb (key z) (key y)

  also_none : (p : A → Bool) (y : A) (k : ℕ) (l : List A) → Above k l → key y ≤ k → filter (also p y) l ≡ filter p l
  also_none p y k [] t h = refl
  also_none p y k (x ∷ l) t h =
      rw (ne_eqb (key x) (key y) (omega arith), or-false (p x)) (ap (keep (p x) x) (also_none p y (key x) l t.1 (omega arith)))

  ins_first : (y : A) (k : ℕ) (l : List A) → Above k l → key y ≤ k → ins y l ≡ y ∷ l
  ins_first y k [] t h = refl
  ins_first y k (b ∷ l) t h = rw (lt-ltb (key y) (key b) (omega arith))

  -- putting in a row of U that did not pass
  pub ins_filter : (p : A → Bool) (y : A) (k : ℕ) (l : List A) → Above k l → Memᴰ y l → p y ≡ false
      → ins y (filter p l) ≡ filter (also p y) l
  ins_filter p y k [] t x3 f = elim x3 [ ]
  ins_filter p y k (x ∷ l) t (Memᴰ.head e) f =
      rw (← e, f, eq-eqb (key y) (key y) refl, also_none p y (key y) l (rw e t.1) (le_refl (key y)))
      (ins_first y (key y) (filter p l) (rw e (above_filter p (key x) l t.1)) (le_refl (key y)))
  ins_filter p y k (x ∷ l) t (Memᴰ.tail m) f =
      let u : key x < key y = above_mem l t.1 m in
      rw (ne_eqb (key x) (key y) (omega arith), or-false (p x)) (go (p x) (ins_filter p y (key x) l t.1 m f))
    where
      go : (b : Bool) → ins y (filter p l) ≡ filter (also p y) l → ins y (keep b x (filter p l)) ≡ keep b x (filter (also p y) l)
      go true r = rw (le-ltb (key y) (key x) (le_of_lt (above_mem l t.1 m))) (ap (λ (s : List A). x ∷ s) r)
      go false r = r

  -- rows of l that do not pass yet, no two of one key
  abbrev pub Fresh : (A → Bool) → List A → List A → Type 0
  Fresh p l [] = Unit {0}
  Fresh p l (y ∷ new) = Memᴰ y l × (p y ≡ false) × (has key y new ≡ false) × Fresh p l new

  eqb_sym : (a b : ℕ) → eqb a b ≡ false → eqb b a ≡ false
  eqb_sym a b e = ne_eqb b a (λ u. eqb-false a b e (sym u))

  fresh_also : (p : A → Bool) (y : A) (l new : List A) → has key y new ≡ false → Fresh p l new → Fresh (also p y) l new
  fresh_also p y l [] h f = tt
  fresh_also p y l (z ∷ new) h f =
      let u : (eqb (key y) (key z) ≡ false) × (has key y new ≡ false) = neither (eqb (key y) (key z)) (has key y new) h in
      (f.0, rw (f.1, eqb_sym (key y) (key z) u.0), f.2, fresh_also p y l new u.1 f.3)

  pub ins_all_filter : (p : A → Bool) (k : ℕ) (l new : List A) → Above k l → Fresh p l new
      → ins_all new (filter p l) ≡ filter (λ z. p z || has key z new) l
  ins_all_filter p k l [] t f = filter_same p _ l (λ z m. sym (or-false (p z)))
  ins_all_filter p k l (y ∷ new) t f =
      ap (ins_all new) (ins_filter p y k l t f.0 f.1)
      ∙ ins_all_filter (also p y) k l new t (fresh_also p y l new f.2 f.3)
      ∙ filter_same _ _ l (λ z m. or_assoc (p z) (eqb (key z) (key y)) (has key z new))

  -- ---- what stands after putting in, and how many

  pub mem_ins : (y : A) {z : A} (l : List A) → Memᴰ z (ins y l) → (z ≡ y) ⊎ Memᴰ z l
  mem_ins y [] m = Memᴰ.cases_cons m
  mem_ins y {z} (b ∷ l) m = go (ltb (key y) (key b)) m (λ n. mem_ins y l n)
    where
      up : (z ≡ y) ⊎ Memᴰ z l → (z ≡ y) ⊎ Memᴰ z (b ∷ l)
      up (inl e) = inl e
      up (inr n) = inr (Memᴰ.tail n)

      second : (z ≡ b) ⊎ Memᴰ z (ins y l) → (Memᴰ z (ins y l) → (z ≡ y) ⊎ Memᴰ z l) → (z ≡ y) ⊎ Memᴰ z (b ∷ l)
      second (inl e) below = inr (Memᴰ.head e)
      second (inr n) below = up (below n)

      go : (t : Bool) → Memᴰ z (cond t (y ∷ b ∷ l) (b ∷ ins y l)) → (Memᴰ z (ins y l) → (z ≡ y) ⊎ Memᴰ z l)
          → (z ≡ y) ⊎ Memᴰ z (b ∷ l)
      go true n below = Memᴰ.cases_cons n
      go false n below = second (Memᴰ.cases_cons n) below

  length_ins : (a : A) (l : List A) → length (ins a l) ≡ suc (length l)
  length_ins a [] = refl
  length_ins a (b ∷ l) = go (ltb (key a) (key b)) (length_ins a l)
    where
      go : (t : Bool) → length (ins a l) ≡ suc (length l) → length (cond t (a ∷ b ∷ l) (b ∷ ins a l)) ≡ suc (suc (length l))
      go true e = refl
      go false e = ap suc e

  pub length_ins_all : (new l : List A) → length (ins_all new l) ≡ length l + length new
  length_ins_all [] l = sym (add-zero (length l))
  length_ins_all (a ∷ new) l = length_ins_all new (ins a l) ∙ rw (length_ins a l) (suc-add (length l) (length new) ∙ sym (add-suc (length l) (length new)))
