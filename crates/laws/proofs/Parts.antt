-- Parts of a list: the first element of a part, neighbouring parts joined; a test of every element of joined lists. Assumes nothing.
use mathlib.Core.Path.{◌≡◌, refl, sym, ap, ◌∙◌}
use mathlib.Core.Bool.{Bool, ◌&&◌, and_assoc}
use mathlib.Core.List.{List, [], ◌∷◌, ◌++◌}
use Prim.Native.Nat.{ℕ, suc, ◌+◌, ◌-◌, ◌≤◌, ◌<◌}
use native.Mathlib.Numerals.{add-one}
use native.Mathlib.Omega.{arith}
use lib.ListN.{length, take, drop, get_or}
use lib.Seq.{drop-cons, drop-drop, take-add}
use Rattle.laws.specs.Lists.{all, part}

pub all_append : {A : Type 0} (p : A → Bool) (l m : List A) → all p (l ++ m) ≡ (all p l && all p m)
all_append p [] m = refl
all_append p (x ∷ l) m = ap (λ (b : Bool). p x && b) (all_append p l m) ∙ sym (and_assoc (p x) (all p l) (all p m))

module _ (l : List ℕ) where
  pub part_none : (a e : ℕ) → e ≤ a → part l a e ≡ []
  part_none a e h = let z : e - a ≡ 0 = omega arith in rw z refl

  pub part_next : (a e : ℕ) → a < e → a < length l → part l a e ≡ get_or l a 0 ∷ part l (a + 1) e
  part_next a e h k =
      let s : e - a ≡ suc (e - suc a) = omega arith in
      rw (s, drop-cons l a 0 k, add-one)

  pub part_joined : (a b e : ℕ) → a ≤ b → b ≤ e → part l a b ++ part l b e ≡ part l a e
  part_joined a b e h k =
      let s : b ≡ a + (b - a) = omega arith in
      let t : e - a ≡ (b - a) + (e - b) = omega arith in
      sym (ap (λ (n : ℕ). take n (drop a l)) t ∙ take-add (b - a) (e - b) (drop a l)
      ∙ ap (λ (m : List ℕ). part l a b ++ take (e - b) m) (drop-drop (b - a) a l ∙ ap (λ (n : ℕ). drop n l) (sym s)))
