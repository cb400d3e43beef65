-- Membership in filters and concatenations. Assumes nothing.
use mathlib.Core.Path.{◌≡◌, refl, sym, ap, ◌∙◌}
use mathlib.Core.Logic.{◌⊎◌, inl, inr}
use mathlib.Core.Bool.{Bool, true, false}
use mathlib.Core.List.Memᴰ
use mathlib.Core.List.{List, [], ◌∷◌, Memᴰ}
use Rattle.laws.specs.Lists.{keep, filter, each}

module _ {A : Type 0} where
  pub mem_filter : (p : A → Bool) {z : A} (l : List A) → Memᴰ z (filter p l) → Memᴰ z l × (p z ≡ true)
  mem_filter p [] m = absurd (Memᴰ.not-nil m)
  mem_filter p {z} (x ∷ l) m = go (p x) refl m (λ h. mem_filter p l h)
    where
      first : p x ≡ true → (z ≡ x) ⊎ Memᴰ z (filter p l) → (Memᴰ z (filter p l) → Memᴰ z l × (p z ≡ true)) → Memᴰ z (x ∷ l) × (p z ≡ true)
      first e (inl f) below = (Memᴰ.head f, ap p f ∙ e)
      first e (inr n) below = (Memᴰ.tail (below n).0, (below n).1)

      go : (b : Bool) → p x ≡ b → Memᴰ z (keep b x (filter p l)) → (Memᴰ z (filter p l) → Memᴰ z l × (p z ≡ true))
          → Memᴰ z (x ∷ l) × (p z ≡ true)
      go true e n below = first e (Memᴰ.cases_cons n) below
      go false e n below = (Memᴰ.tail (below n).0, (below n).1)

  pub filter_mem : (p : A → Bool) {z : A} (l : List A) → Memᴰ z l → p z ≡ true → Memᴰ z (filter p l)
  filter_mem p {z = z} [] x'' e = elim x'' [ ]
  filter_mem p {z} (x ∷ l) (Memᴰ.head f) e = rw (ap p (sym f) ∙ e) (Memᴰ.head f)
  filter_mem p (x ∷ l) (Memᴰ.tail m) e = go (p x) (filter_mem p l m e)
    where
      go : (b : Bool) {z : A} → Memᴰ z (filter p l) → Memᴰ z (keep b x (filter p l))
      go true n = Memᴰ.tail n
      go false n = n

  pub each_mem : {B : Type 0} (f : B → List A) {z : A} {x : B} (l : List B) → Memᴰ x l → Memᴰ z (f x) → Memᴰ z (each f l)
  each_mem {B = B} f {z = z} [] x3 m = elim x3 [ ]
  each_mem f {z} (y ∷ l) (Memᴰ.head e) m = Memᴰ.append_left (each f l) (rw e at m)
  each_mem f (y ∷ l) (Memᴰ.tail n) m = Memᴰ.append_right (f y) (each_mem f l n m)

  pub mem_each : {B : Type 0} (f : B → List A) {z : A} (l : List B) → Memᴰ z (each f l) → (x : B) × Memᴰ x l × Memᴰ z (f x)
  mem_each f [] m = absurd (Memᴰ.not-nil m)
  mem_each {B} f {z} (y ∷ l) m = go (Memᴰ.append_cases (f y) m) (λ h. mem_each f l h)
    where
      go : Memᴰ z (f y) ⊎ Memᴰ z (each f l) → (Memᴰ z (each f l) → (x : B) × Memᴰ x l × Memᴰ z (f x))
          → (x : B) × Memᴰ x (y ∷ l) × Memᴰ z (f x)
      go (inl n) below = (y, Memᴰ.head refl, n)
      go (inr n) below = ((below n).0, Memᴰ.tail (below n).1, (below n).2)
