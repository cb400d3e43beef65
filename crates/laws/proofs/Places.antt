-- Lists laid one behind the other, any tail behind them: where each begins, and that it is the part between its two places. Assumes nothing.
use mathlib.Core.Path.{◌≡◌, refl, sym, ap, ◌∙◌}
use mathlib.Core.List.{List, [], ◌++◌, append_assoc}
use Prim.Native.Nat.{ℕ, zero, suc, ◌+◌, ◌≤◌, ◌<◌, zero-le, suc-le-suc}
use native.Mathlib.Nat.{le_of_suc-le-suc, le_trans, not-suc-le-zero, add_assoc, add-suc, suc-add, add-zero, add-sub_cancel_left, lt_irrefl}
use native.Mathlib.Omega.{arith}
use lib.ListN.{length, get_or, length-append}
use lib.Seq.{take_at, drop_at}
use Rattle.laws.specs.Lists.{from, each, part, places}

first_place : (f : ℕ → List ℕ) (a i m : ℕ) → get_or (places f a i m) 0 0 ≡ a
first_place f a i zero = refl
first_place f a i (suc m) = refl

part_between : (pre mid post : List ℕ) → part (pre ++ (mid ++ post)) (length pre) (length pre + length mid) ≡ mid
part_between pre mid post =
    rw (add-sub_cancel_left, drop_at pre (mid ++ post) (length pre) refl) (take_at mid post (length mid) refl)

laid_from : (f : ℕ → List ℕ) (pre tail : List ℕ) (i m k : ℕ) → k < m
    → part (pre ++ (each f (from i m) ++ tail)) (get_or (places f (length pre) i m) k 0) (get_or (places f (length pre) i m) (suc k) 0) ≡ f (i + k)
laid_from f pre tail i zero k h = absurd (not-suc-le-zero h)
laid_from f pre tail i (suc m) zero h =
    rw (first_place f (length pre + length (f i)) (suc i) m, add-zero i, append_assoc (f i) (each f (from (suc i) m)) tail)
    (part_between pre (f i) (each f (from (suc i) m) ++ tail))
laid_from f pre tail i (suc m) (suc k) h =
    rw (
      append_assoc (f i) (each f (from (suc i) m)) tail,
      ← append_assoc pre (f i) (each f (from (suc i) m) ++ tail),
      ← length-append pre (f i),
      add-suc i k,
      ← suc-add i k,
    )
    (laid_from f (pre ++ f i) tail (suc i) m k (le_of_suc-le-suc h))

-- list k of those laid from 0 on is the part from its place to the next
pub part_is : (f : ℕ → List ℕ) (tail : List ℕ) (i m k : ℕ) → k < m
    → part (each f (from i m) ++ tail) (get_or (places f 0 i m) k 0) (get_or (places f 0 i m) (suc k) 0) ≡ f (i + k)
part_is f tail i m k h = laid_from f [] tail i m k h

-- a list begins behind all before it
pub place_is : (f : ℕ → List ℕ) (a i m k : ℕ) → k ≤ m → get_or (places f a i m) k 0 ≡ a + length (each f (from i k))
place_is f a i zero zero h = sym (add-zero a)
place_is f a i zero (suc k) h = absurd (lt_irrefl 0 (le_trans (suc-le-suc zero-le) h))
place_is f a i (suc m) zero h = sym (add-zero a)
place_is f a i (suc m) (suc k) h =
    place_is f (a + length (f i)) (suc i) m k (omega arith)
    ∙ add_assoc a (length (f i)) (length (each f (from (suc i) k))) ∙ ap (λ (n : ℕ). a + n) (sym (length-append (f i) (each f (from (suc i) k))))

pub length_places : (f : ℕ → List ℕ) (a i m : ℕ) → length (places f a i m) ≡ m + 1
length_places f a i zero = omega arith
length_places f a i (suc m) = let e = length_places f (a + length (f i)) (suc i) m in omega arith
