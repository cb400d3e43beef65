-- Filters, concatenations and lists that stand only where a test passes. Assumes nothing.
use mathlib.Core.Path.{◌≡◌, refl, sym, ap, ap₂, ◌∙◌}
use mathlib.Core.Bool.{Bool, true, false, ◌&&◌}
use mathlib.Core.List.{List, [], ◌∷◌, ◌++◌, append_assoc, Memᴰ}
use Prim.Native.Nat.{◌≤◌}
use native.Mathlib.Nat.{not-suc-le-zero}
use lib.ListN.{length}
use Rattle.laws.specs.Lists.{keep, filter, each, only, all}

module _ {A : Type 0} where
  pub keep_append : (b : Bool) (x : A) (l m : List A) → keep b x l ++ m ≡ keep b x (l ++ m)
  keep_append true x l m = refl
  keep_append false x l m = refl

  pub filter_append : (p : A → Bool) (l m : List A) → filter p (l ++ m) ≡ filter p l ++ filter p m
  filter_append p [] m = refl
  filter_append p (x ∷ l) m = ap (keep (p x) x) (filter_append p l m) ∙ sym (keep_append (p x) x (filter p l) (filter p m))

  pub filter_each : {B : Type 0} (p : A → Bool) (f : B → List A) (l : List B) → filter p (each f l) ≡ each (λ k. filter p (f k)) l
  filter_each p f [] = refl
  filter_each p f (k ∷ l) = filter_append p (f k) (each f l) ∙ ap (λ (t : List A). filter p (f k) ++ t) (filter_each p f l)

  pub each_filter : {B : Type 0} (r : B → Bool) (f : B → List A) (l : List B) → each f (filter r l) ≡ each (λ k. only (r k) (f k)) l
  each_filter r f [] = refl
  each_filter {B} r f (k ∷ l) = go (r k) ∙ ap (λ (t : List A). only (r k) (f k) ++ t) (each_filter r f l)
    where
      go : (b : Bool) → each f (keep b k (filter r l)) ≡ only b (f k) ++ each f (filter r l)
      go true = refl
      go false = refl

  filter_keep : (p : A → Bool) (b : Bool) (x : A) (l : List A) → filter p (keep b x l) ≡ keep (b && p x) x (filter p l)
  filter_keep p true x l = refl
  filter_keep p false x l = refl

  pub filter_filter : (p q : A → Bool) (l : List A) → filter p (filter q l) ≡ filter (λ x. q x && p x) l
  filter_filter p q [] = refl
  filter_filter p q (x ∷ l) = filter_keep p (q x) x (filter q l) ∙ ap (keep (q x && p x) x) (filter_filter p q l)

  pub filter_none : (l : List A) → filter (λ (x : A). false) l ≡ []
  filter_none [] = refl
  filter_none (x ∷ l) = filter_none l

  pub only_filter : (b : Bool) (p : A → Bool) (l : List A) → only b (filter p l) ≡ filter (λ x. b && p x) l
  only_filter true p l = refl
  only_filter false p l = sym (filter_none l)

  pub only_each : {B : Type 0} (b : Bool) (f : B → List A) (l : List B) → only b (each f l) ≡ each (λ x. only b (f x)) l
  only_each true f l = refl
  only_each false f [] = refl
  only_each false f (x ∷ l) = only_each false f l

  pub only_only : (a b : Bool) (l : List A) → only a (only b l) ≡ only (a && b) l
  only_only true b l = refl
  only_only false b l = refl

  pub each_same : {B : Type 0} (f h : B → List A) (l : List B) → ((x : B) → f x ≡ h x) → each f l ≡ each h l
  each_same f h [] e = refl
  each_same f h (x ∷ l) e = ap₂ ◌++◌ (e x) (each_same f h l e)

  pub pairs_filter : {B C : Type 0} (p : B → Bool) (q : C → Bool) (f : B → C → List A) (l : List B) (m : List C)
      → each (λ x. each (f x) (filter q m)) (filter p l) ≡ each (λ x. each (λ y. only (p x) (only (q y) (f x y))) m) l
  pairs_filter p q f l m =
      each_filter p _ l ∙ each_same _ _ l (λ x. ap (only (p x)) (each_filter q (f x) m) ∙ only_each (p x) _ m)

  pub filter_same : (p q : A → Bool) (l : List A) → ((z : A) → Memᴰ z l → p z ≡ q z) → filter p l ≡ filter q l
  filter_same p q [] h = refl
  filter_same p q (x ∷ l) h =
      ap₂ (λ (b : Bool) (m : List A). keep b x m) (h x (Memᴰ.head refl)) (filter_same p q l (λ z m. h z (Memᴰ.tail m)))

pub each_append : {A B : Type 0} (f : B → List A) (l m : List B) → each f (l ++ m) ≡ each f l ++ each f m
each_append f [] m = refl
each_append f (x ∷ l) m = ap (λ (t : List _). f x ++ t) (each_append f l m) ∙ sym (append_assoc (f x) (each f l) (each f m))

pub each_on : {A B : Type 0} (f h : B → List A) (l : List B) → ((x : B) → Memᴰ x l → f x ≡ h x) → each f l ≡ each h l
each_on f h [] e = refl
each_on f h (x ∷ l) e = ap₂ ◌++◌ (e x (Memᴰ.head refl)) (each_on f h l (λ y m. e y (Memᴰ.tail m)))

-- nothing, laid behind itself any number of times
pub each_empty : {A B : Type 0} (f : B → List A) (l : List B) → ((x : B) → f x ≡ []) → each f l ≡ []
each_empty f [] h = refl
each_empty f (x ∷ l) h = rw (h x) (each_empty f l h)

pub all_on : {A : Type 0} (p : A → Bool) (l : List A) → ((x : A) → Memᴰ x l → p x ≡ true) → all p l ≡ true
all_on p [] h = refl
all_on p (x ∷ l) h = rw (h x (Memᴰ.head refl)) (all_on p l (λ y m. h y (Memᴰ.tail m)))

-- a list of no length is empty
pub empty : {A : Type 0} (l : List A) → length l ≤ 0 → l ≡ []
empty [] h = refl
empty (x ∷ l) h = absurd (not-suc-le-zero h)
