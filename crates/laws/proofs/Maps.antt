-- Parts of lists and of mapped lists, and what stands at a place. Assumes nothing.
use mathlib.Core.Path.{◌≡◌, refl, ap}
use mathlib.Core.List.{List, [], ◌∷◌, map, Memᴰ}
use Prim.Native.Nat.{ℕ, zero, suc, ◌<◌}
use native.Mathlib.Nat.{not-suc-le-zero}
use native.Mathlib.Omega.{arith}
use lib.ListN.{length, take, drop, get_or}

module _ {A B : Type 0} (f : A → B) where
  pub take_map : (n : ℕ) (l : List A) → take n (map f l) ≡ map f (take n l)
  take_map zero l = refl
  take_map (suc n) [] = refl
  take_map (suc n) (x ∷ l) = ap (λ (m : List B). f x ∷ m) (take_map n l)

  pub drop_map : (n : ℕ) (l : List A) → drop n (map f l) ≡ map f (drop n l)
  drop_map zero l = refl
  drop_map (suc n) [] = refl
  drop_map (suc n) (x ∷ l) = drop_map n l

  pub map_map : {C : Type 0} (h : B → C) (l : List A) → map h (map f l) ≡ map (λ x. h (f x)) l
  map_map h [] = refl
  map_map {C} h (x ∷ l) = ap (λ (m : List C). h (f x) ∷ m) (map_map h l)

pub drop_taken : {A : Type 0} (k : ℕ) (l : List A) → drop (length (take k l)) l ≡ drop k l
drop_taken zero l = refl
drop_taken (suc k) [] = refl
drop_taken (suc k) (x ∷ l) = drop_taken k l

pub at_place : (l : List ℕ) (m : ℕ) → m < length l → Memᴰ (get_or l m 0) l
at_place [] m h = absurd (not-suc-le-zero h)
at_place (x ∷ l) zero h = Memᴰ.head refl
at_place (x ∷ l) (suc m) h = Memᴰ.tail (at_place l m (omega arith))
