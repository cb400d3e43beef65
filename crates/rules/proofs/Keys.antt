-- A waiting row's place in the order as one number: square, then kind, then number. Assumes nothing.
use mathlib.Core.Path.{◌≡◌, refl, sym, ap, ◌∙◌}
use mathlib.Core.Logic.{◌⊎◌, inl, inr, ◌↔◌}
use mathlib.Core.Bool.{Bool, true, false, cond}
use mathlib.Core.List.{List, [], ◌∷◌, map, Memᴰ}
use Prim.Native.Nat.{ℕ, ◌+◌, ◌*◌, ◌/◌, ◌%◌, ◌≤◌, ◌<◌}
use native.Mathlib.Nat.{lt_irrefl}
use native.Mathlib.Omega.{arith}
use lib.Arith.{digits_div, digits_mod}
use lib.Dec.{ltb}
use borrow.Author.Tests.{lt-ltb, le-ltb, eq-eqb, ne_eqb}
use Rattle.laws.proofs.Tests.{by_le}
use Rattle.laws.proofs.Ordered.{ins, ins_all, mem_ins}
use Rattle.rules.specs.Sizes.{most_footprints}
use Rattle.rules.specs.declared.Three.{Three}
use Rattle.rules.specs.Front.{three, earlier, insert, insert_all}

-- a known kind, and a number that a group, a tile or a footprint can have
pub record Small (a : Three) : Type 0 where
  pub kind_lt : a.kind < 3
  pub number_lt : a.number < most_footprints

unfoldable pub key_row : Three → ℕ
key_row a = (a.square * 3 + a.kind) * most_footprints + a.number

module _ (a b : Three) (sa : Small a) (sb : Small b) where
  pub key_less : earlier a b ≡ ltb (key_row a) (key_row b)
  unfolding earlier key_row
  key_less =
      by_le b.square a.square
      (λ u. by_le a.square b.square
      (λ v. by_le b.kind a.kind
      (λ k. by_le a.kind b.kind
      (λ m. by_le b.number a.number
      (λ n. rw (le-ltb _ _ u, eq-eqb a.square b.square (omega arith), le-ltb _ _ k, eq-eqb a.kind b.kind (omega arith), le-ltb _ _ n) (sym (le-ltb (key_row a) (key_row b) (omega arith))))
      (λ n. rw (le-ltb _ _ u, eq-eqb a.square b.square (omega arith), le-ltb _ _ k, eq-eqb a.kind b.kind (omega arith), lt-ltb _ _ n) (sym (lt-ltb (key_row a) (key_row b) (omega arith)))))
      (λ m. rw (le-ltb _ _ u, eq-eqb a.square b.square (omega arith), le-ltb _ _ k, ne_eqb a.kind b.kind (omega arith)) (sym (le-ltb (key_row a) (key_row b) (omega (arith, sb.number_lt))))))
      (λ k. rw (le-ltb _ _ u, eq-eqb a.square b.square (omega arith), lt-ltb _ _ k) (sym (lt-ltb (key_row a) (key_row b) (omega (arith, sa.number_lt))))))
      (λ v. rw (le-ltb _ _ u, ne_eqb a.square b.square (omega arith)) (sym (le-ltb (key_row a) (key_row b) (omega (arith, sb.number_lt, sb.kind_lt))))))
      (λ u. rw (lt-ltb _ _ u) (sym (lt-ltb (key_row a) (key_row b) (omega (arith, sa.number_lt, sa.kind_lt)))))

  pub key_number : key_row a ≡ key_row b → a.number ≡ b.number
  unfolding key_row
  key_number e =
      sym (digits_mod (a.square * 3 + a.kind) sa.number_lt) ∙ ap (λ (n : ℕ). n % most_footprints) e ∙ digits_mod (b.square * 3 + b.kind) sb.number_lt

  pub key_kind : key_row a ≡ key_row b → a.kind ≡ b.kind
  unfolding key_row
  key_kind e =
      sym (digits_mod a.square sa.kind_lt)
      ∙ ap (λ (n : ℕ). n % 3) (sym (digits_div (a.square * 3 + a.kind) sa.number_lt) ∙ ap (λ (n : ℕ). n / most_footprints) e ∙ digits_div (b.square * 3 + b.kind) sb.number_lt)
      ∙ digits_mod b.square sb.kind_lt

-- from a group to a tile to a footprint the key rises where the square does not fall
pub key_rises : (s t k m i j : ℕ) → s ≤ t → k < m → i < most_footprints → key_row (three s k i) < key_row (three t m j)
unfolding key_row
key_rises s t k m i j h u v = omega arith

pub key_rises_number : (s t k i j : ℕ) → s ≤ t → i < j → key_row (three s k i) < key_row (three t k j)
unfolding key_row
key_rises_number s t k i j h u = omega arith

-- a group or a tile against a footprint of square d that was given: only the squares count
pub key_passed : (s d k m i : ℕ) → k < 2 → m < most_footprints → i < most_footprints → (key_row (three s k m) ≤ key_row (three d 2 i)) ↔ (s ≤ d)
unfolding key_row
key_passed s d k m i h u v = (λ w. by_le s d (λ z. z) (λ z. absurd (lt_irrefl d (omega arith))), λ w. omega arith)

-- ---- rows put in for what they stand for

module _ {A : Type 0} (f : A → Three) where
  abbrev pub row_key : A → ℕ
  row_key a = key_row (f a)

  abbrev AllSmall : List A → Type 0
  AllSmall l = (z : A) → Memᴰ z l → Small (f z)

  pub rows_ins : (a : A) (l : List A) → Small (f a) → AllSmall l → insert (f a) (map f l) ≡ map f (ins row_key a l)
  unfolding insert
  rows_ins a [] s t = refl
  rows_ins a (b ∷ l) s t =
      rw (key_less (f a) (f b) s (t b (Memᴰ.head refl))) (go (ltb (row_key a) (row_key b)) (rows_ins a l s (λ z m. t z (Memᴰ.tail m))))
    where
      go : (c : Bool) → insert (f a) (map f l) ≡ map f (ins row_key a l)
          → cond c (f a ∷ f b ∷ map f l) (f b ∷ insert (f a) (map f l)) ≡ map f (cond c (a ∷ b ∷ l) (b ∷ ins row_key a l))
      go true e = refl
      go false e = ap (λ (r : List Three). f b ∷ r) e

  pub rows_ins_all : (new l : List A) → AllSmall new → AllSmall l → insert_all (map f new) (map f l) ≡ map f (ins_all row_key new l)
  rows_ins_all [] l s t = refl
  rows_ins_all (a ∷ new) l s t =
      ap (insert_all (map f new)) (rows_ins a l (s a (Memᴰ.head refl)) t)
      ∙ rows_ins_all new (ins row_key a l) (λ z m. s z (Memᴰ.tail m)) (λ z m. go z (mem_ins row_key a l m))
    where
      go : (z : A) → (z ≡ a) ⊎ Memᴰ z l → Small (f z)
      go z (inl e) = rw e (s a (Memᴰ.head refl))
      go z (inr m) = t z m
