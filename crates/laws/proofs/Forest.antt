-- A walk over a forest of rows whose keys rise from parent to child: the least row is taken each time, and brings its children.
-- At each moment the rows that wait, in order, are those above the last key taken whose parent is taken. Assumes nothing.
use mathlib.Core.Path.{◌≡◌, refl, sym, ap, ◌∙◌}
use mathlib.Core.Logic.{◌⊎◌, inl, inr}
use mathlib.Core.Bool.{Bool, true, false, ◌||◌, or-true}
use mathlib.Core.Option.{Option, none, some}
use mathlib.Core.List.Memᴰ
use mathlib.Core.List.{List, [], ◌∷◌, Memᴰ}
use Prim.Native.Nat.{ℕ, ◌≤◌, ◌<◌, zero-le}
use native.Mathlib.Nat.{le_trans, le_of_lt, le_of_eq, lt_irrefl}
use native.Mathlib.Omega.{arith}
use lib.Dec.{leb, eqb}
use borrow.Author.Tests.{le-leb, lt-leb, eq-eqb, ne_eqb, eqb-true}
use Rattle.laws.specs.Lists.{filter}
use Rattle.laws.proofs.Tests.{by_le, iff}
use Rattle.laws.proofs.Lists.{filter_none, filter_same}
use Rattle.laws.proofs.Apart.{has, has_mem, mem_has, Apart}
use Rattle.laws.proofs.Ordered.{Above, above_mem, ins_all, Fresh, ins_all_filter}

-- ---- each row waits from the moment its parent is taken; `par` is the parent's key, or one that is passed from the beginning

module _ {A : Type 0} (key : A → ℕ) (par : A → ℕ) (brings : A → List A) where
  -- what waits when all up to the key c is taken, and l is the rest
  abbrev pub front : ℕ → List A → List A
  front c l = filter (λ z. leb (par z) c) l

  -- each row's parent is passed, or is an earlier row of the rest
  abbrev pub Closed : ℕ → List A → Type 0
  Closed c l = (z : A) → Memᴰ z l → (par z ≤ c) ⊎ ((y : A) × Memᴰ y l × (par z ≡ key y) × (par z < key z))

  -- what a row brings are the rows of the rest whose parent it is
  pub record Children (c : ℕ) (x : A) (l : List A) : Type 0 where
    pub fresh : Fresh key (λ z. leb (par z) c) l (brings x)
    pub all_of : (z : A) → Memᴰ z l → has key z (brings x) ≡ eqb (par z) (key x)

  module _ (c : ℕ) (x : A) (l : List A) (up : Above key c (x ∷ l)) (closed : Closed c (x ∷ l)) where
    -- the next row of all waits, and stands first
    first_waits : leb (par x) c ≡ true
    first_waits = go (closed x (Memᴰ.head refl))
      where
        cases : {y : A} → par x ≡ key y → par x < key x → (y ≡ x) ⊎ Memᴰ y l → leb (par x) c ≡ true
        cases e k (inl f) = absurd (lt_irrefl (key x) (rw (e ∙ ap key f) at k))
        cases {y} e k (inr m) = absurd (lt_irrefl (key x) (le_trans (above_mem key l up.1 m) (le_trans (le_of_eq (sym e)) (le_of_lt k))))

        go : (par x ≤ c) ⊎ ((y : A) × Memᴰ y (x ∷ l) × (par x ≡ key y) × (par x < key x)) → leb (par x) c ≡ true
        go (inl h) = le-leb _ _ h
        go (inr h) = cases h.2 h.3 (Memᴰ.cases_cons h.1)

    pub front_first : front c (x ∷ l) ≡ x ∷ front c l
    front_first = rw first_waits

    -- no parent lies between c and the next row
    between : (z : A) → Memᴰ z l → (leb (par z) c || eqb (par z) (key x)) ≡ leb (par z) (key x)
    between z m = go (closed z (Memᴰ.tail m))
      where
        cases : {y : A} → par z ≡ key y → (y ≡ x) ⊎ Memᴰ y l → (leb (par z) c || eqb (par z) (key x)) ≡ leb (par z) (key x)
        cases e (inl f) = rw (eq-eqb (par z) (key x) (e ∙ ap key f), le-leb (par z) (key x) (le_of_eq (e ∙ ap key f))) (or-true (leb (par z) c))
        cases {y} e (inr n) =
            let k : key x < key y = above_mem key l up.1 n in
            let u : c < key x = up.0 in
            rw (lt-leb (par z) c (omega arith), ne_eqb (par z) (key x) (omega arith), lt-leb (par z) (key x) (omega arith))

        go : (par z ≤ c) ⊎ ((y : A) × Memᴰ y (x ∷ l) × (par z ≡ key y) × (par z < key z))
            → (leb (par z) c || eqb (par z) (key x)) ≡ leb (par z) (key x)
        go (inl h) = let u : c < key x = up.0 in rw (le-leb (par z) c h, le-leb (par z) (key x) (omega arith))
        go (inr h) = cases h.2 (Memᴰ.cases_cons h.1)

    -- it is taken, and what it brings is put in: the front of what is left
    pub front_next : Children c x l → ins_all key (brings x) (front c l) ≡ front (key x) l
    front_next k =
        ins_all_filter key (λ z. leb (par z) c) (key x) l (brings x) up.1 k.fresh
        ∙ filter_same _ _ l (λ z m. ap (λ (b : Bool). leb (par z) c || b) (k.all_of z m) ∙ between z m)

-- ---- a forest

module _ {A : Type 0} (key : A → ℕ) (Valid : A → Type 0) (parent : A → Option A) (brings : A → List A) where
  abbrev pub par_key : Option A → ℕ
  par_key none = 0
  par_key (some y) = key y

  abbrev pub par : A → ℕ
  par z = par_key (parent z)

  pub record Forest : Type 0 where
    pub one_key : (a b : A) → Valid a → Valid b → key a ≡ key b → a ≡ b
    pub above_parent : (z y : A) → Valid z → parent z ≡ some y → Valid y × (key y < key z)
    pub brought : (x z : A) → Valid x → Memᴰ z (brings x) → Valid z × (parent z ≡ some x)
    pub brings_all : (x z : A) → Valid z → parent z ≡ some x → Memᴰ z (brings x)
    pub distinct : (x : A) → Valid x → Apart key (brings x)

  -- l holds the rows above c, in order
  pub record Rest (c : ℕ) (l : List A) : Type 0 where
    pub up : Above key c l
    pub sound : (z : A) → Memᴰ z l → Valid z
    pub complete : (z : A) → Valid z → c < key z → Memᴰ z l

  module _ (F : Forest) (c : ℕ) (x : A) (l : List A) (R : Rest c (x ∷ l)) where
    pub rest_next : Rest (key x) l
    rest_next = record {
      up = R.up.1;
      sound = λ z m. R.sound z (Memᴰ.tail m);
      complete = λ z v k. drop_head z k (Memᴰ.cases_cons (R.complete z v (le_trans R.up.0 (le_of_lt k))));
    }
      where
        drop_head : (z : A) → key x < key z → (z ≡ x) ⊎ Memᴰ z l → Memᴰ z l
        drop_head z k (inl e) = absurd (lt_irrefl (key x) (rw e at k))
        drop_head z k (inr m) = m

    closed : Closed key par brings c (x ∷ l)
    closed z m = go (parent z) refl
      where
        go : (o : Option A) → parent z ≡ o → (par z ≤ c) ⊎ ((y : A) × Memᴰ y (x ∷ l) × (par z ≡ key y) × (par z < key z))
        go none e = inl (rw e zero-le)
        go (some y) e =
            let a : Valid y × (key y < key z) = F.above_parent z y (R.sound z m) e in
            by_le (key y) c (λ h. inl (rw e h)) (λ h. inr ((y, R.complete y a.0 h, rw e, rw e a.1)))

    children : Children key par brings c x l
    children = record { fresh = fresh (brings x) (λ z m. m) (F.distinct x vx); all_of = all_of }
      where
        vx : Valid x
        vx = R.sound x (Memᴰ.head refl)

        fresh : (new : List A) → ((z : A) → Memᴰ z new → Memᴰ z (brings x)) → Apart key new → Fresh key (λ z. leb (par z) c) l new
        fresh [] sub d = tt
        fresh (y ∷ new) sub d =
            let b : Valid y × (parent y ≡ some x) = F.brought x y vx (sub y (Memᴰ.head refl)) in
            let k : Valid x × (key x < key y) = F.above_parent y x b.0 b.1 in
            (rest_next.complete y b.0 k.1, rw b.1 (lt-leb (key x) c R.up.0), d.0, fresh new (λ z m. sub z (Memᴰ.tail m)) d.1)

        all_of : (z : A) → Memᴰ z l → has key z (brings x) ≡ eqb (par z) (key x)
        all_of z m = iff _ _ there back
          where
            vz : Valid z
            vz = R.sound z (Memᴰ.tail m)

            there : has key z (brings x) ≡ true → eqb (par z) (key x) ≡ true
            there e =
                let r : (y : A) × Memᴰ y (brings x) × (key z ≡ key y) = mem_has key z (brings x) e in
                let b : Valid r.0 × (parent r.0 ≡ some x) = F.brought x r.0 vx r.1 in
                let f : parent z ≡ some x = ap parent (F.one_key z r.0 vz b.0 r.2) ∙ b.1 in
                eq-eqb (par z) (key x) (ap par_key f)

            back : eqb (par z) (key x) ≡ true → has key z (brings x) ≡ true
            back e = go (parent z) refl
              where
                go : (o : Option A) → parent z ≡ o → has key z (brings x) ≡ true
                go none f =
                    let u : 0 ≡ key x = sym (ap par_key f) ∙ eqb-true (par z) (key x) e in
                    let k : c < key x = R.up.0 in
                    absurd (lt_irrefl c (omega arith))
                go (some y) f =
                    let a : Valid y × (key y < key z) = F.above_parent z y vz f in
                    let u : y ≡ x = F.one_key y x a.0 vx (sym (ap par_key f) ∙ eqb-true (par z) (key x) e) in
                    has_mem key z (brings x) (F.brings_all x z vz (f ∙ ap some u))

    -- the first row of the rest stands first in the front, and after its turn the front is that of what is left
    pub walk_first : front key par brings c (x ∷ l) ≡ x ∷ front key par brings c l
    walk_first = front_first key par brings c x l R.up closed

    pub walk_next : ins_all key (brings x) (front key par brings c l) ≡ front key par brings (key x) l
    walk_next = front_next key par brings c x l R.up closed children

  -- items named by what is true of them: put in one by one they are the rows of the rest of which it is true
  module _ (F : Forest) (c : ℕ) (l : List A) (R : Rest c l) (items : List A) (p : A → Bool) (apart : Apart key items)
      (named : (z : A) → Memᴰ z items → Valid z × (c < key z) × (p z ≡ true))
      (all_named : (z : A) → Valid z → c < key z → p z ≡ true → Memᴰ z items) where
    all_fresh : (new : List A) → ((z : A) → Memᴰ z new → Memᴰ z items) → Apart key new → Fresh key (λ z. false) l new
    all_fresh [] sub d = tt
    all_fresh (y ∷ new) sub d =
        let b : Valid y × (c < key y) × (p y ≡ true) = named y (sub y (Memᴰ.head refl)) in
        (R.complete y b.0 b.1, refl, d.0, all_fresh new (λ z m. sub z (Memᴰ.tail m)) d.1)

    has_named : (z : A) → Memᴰ z l → has key z items ≡ p z
    has_named z m = iff _ _ there (λ e. has_mem key z items (all_named z (R.sound z m) (above_mem key l R.up m) e))
      where
        there : has key z items ≡ true → p z ≡ true
        there e =
            let r : (y : A) × Memᴰ y items × (key z ≡ key y) = mem_has key z items e in
            let b : Valid r.0 × (c < key r.0) × (p r.0 ≡ true) = named r.0 r.1 in
            ap p (F.one_key z r.0 (R.sound z m) b.0 r.2) ∙ b.2

    pub named_in_order : ins_all key items [] ≡ filter p l
    named_in_order =
        ap (ins_all key items) (sym (filter_none l))
        ∙ ins_all_filter key (λ z. false) c l items R.up (all_fresh items (λ z m. m) apart)
        ∙ filter_same _ _ l has_named
