-- Ranges of numbers: what stands in them, one more at the end, the one number of a range that passes a test. Assumes nothing.
use mathlib.Core.Path.{◌≡◌, refl, ap, ap₂, ◌∙◌}
use mathlib.Core.Logic.{◌⊎◌, inl, inr}
use mathlib.Core.Bool.{Bool, true, false, ◌&&◌, and-true, and-false}
use mathlib.Core.List.Memᴰ
use mathlib.Core.List.{List, [], ◌∷◌, ◌++◌, append-nil, Memᴰ}
use Prim.Native.Nat.{ℕ, zero, suc, ◌+◌, ◌≤◌, ◌<◌, zero-le}
use native.Mathlib.Nat.{add-suc, suc-add, add-zero, zero-add, le_refl, lt_irrefl, lt-suc_self}
use native.Mathlib.Numerals.{add-one}
use native.Mathlib.Omega.{arith}
use lib.Dec.{eqb, ltb}
use lib.ListN.{length}
use borrow.Author.Tests.{eq-eqb, ne_eqb, lt-ltb, le-ltb}
use Rattle.laws.specs.Lists.{keep, filter, from, up_to, each, only}
use Rattle.laws.proofs.Tests.{by_le}
use Rattle.laws.proofs.Lists.{filter_append, each_append}

-- ---- what stands in a range

pub length_from : (i m : ℕ) → length (from i m) ≡ m
length_from i zero = refl
length_from i (suc m) = ap suc (length_from (suc i) m)

pub from_append : (i m k : ℕ) → from i (m + k) ≡ from i m ++ from (i + m) k
from_append i zero k = rw (zero-add, add-zero)
from_append i (suc m) k = rw (suc-add m k) (ap (λ (l : List ℕ). i ∷ l) (from_append (suc i) m k ∙ rw (suc-add i m, add-suc i m)))

pub mem_from : (i m : ℕ) {k : ℕ} → Memᴰ k (from i m) → (i ≤ k) × (k < i + m)
mem_from i zero h = absurd (Memᴰ.not-nil h)
mem_from i (suc m) {k} h = go (Memᴰ.cases_cons h) (λ n. mem_from (suc i) m n)
  where
    go : (k ≡ i) ⊎ Memᴰ k (from (suc i) m) → (Memᴰ k (from (suc i) m) → (suc i ≤ k) × (k < suc i + m)) → (i ≤ k) × (k < i + suc m)
    go (inl e) below = (omega arith, omega arith)
    go (inr n) below = let b : (suc i ≤ k) × (k < suc i + m) = below n in (omega arith, omega arith)

pub from_mem : (i m k : ℕ) → i ≤ k → k < i + m → Memᴰ k (from i m)
from_mem i zero k h l = absurd (lt_irrefl i (omega arith))
from_mem i (suc m) k h l = by_le k i (λ u. Memᴰ.head (omega arith)) (λ u. Memᴰ.tail (from_mem (suc i) m k u (omega arith)))

-- ---- the same at every number of a range

pub filter_from : (p q : ℕ → Bool) (i m : ℕ) → ((k : ℕ) → i ≤ k → k < i + m → p k ≡ q k) → filter p (from i m) ≡ filter q (from i m)
filter_from p q i zero h = refl
filter_from p q i (suc m) h =
    ap₂ (λ (b : Bool) (l : List ℕ). keep b i l) (h i (le_refl i) (omega arith)) (filter_from p q (suc i) m (λ k u v. h k (omega arith) (omega arith)))

pub each_from : {A : Type 0} (f g : ℕ → List A) (i m : ℕ) → ((k : ℕ) → i ≤ k → k < i + m → f k ≡ g k) → each f (from i m) ≡ each g (from i m)
each_from f g i zero h = refl
each_from f g i (suc m) h =
    ap₂ ◌++◌ (h i (le_refl i) (omega arith)) (each_from f g (suc i) m (λ k u v. h k (omega arith) (omega arith)))

-- ---- one number of a range

pick_none : (p : ℕ → Bool) (i a m : ℕ) → i < a → filter (λ j. p j && eqb i j) (from a m) ≡ []
pick_none p i a zero h = refl
pick_none p i a (suc m) h =
    rw (ne_eqb i a (omega arith), and-false (p a)) (pick_none p i (suc a) m (omega arith))

pub pick_one : (p : ℕ → Bool) (i a m : ℕ) → a ≤ i → i < a + m → filter (λ j. p j && eqb i j) (from a m) ≡ only (p i) (i ∷ [])
pick_one p i a zero h k = absurd (lt_irrefl i (omega arith))
pick_one p i a (suc m) h k =
    by_le i a
    (λ u.
    let e : a ≡ i = omega arith in
    rw (e, eq-eqb i i refl, and-true (p i), pick_none p i (suc i) m (lt-suc_self i)) (keep_only (p i) i))
    (λ u. rw (ne_eqb i a (omega arith), and-false (p a)) (pick_one p i (suc a) m u (omega arith)))
  where
    keep_only : (b : Bool) (x : ℕ) → keep b x [] ≡ only b (x ∷ [])
    keep_only true x = refl
    keep_only false x = refl

pick_beyond : (p : ℕ → Bool) (i a m : ℕ) → a + m ≤ i → filter (λ j. p j && eqb i j) (from a m) ≡ []
pick_beyond p i a zero h = refl
pick_beyond p i a (suc m) h = rw (ne_eqb i a (omega arith), and-false (p a)) (pick_beyond p i (suc a) m (omega arith))

-- i alone, where it is in the range and passes
pub pick : (p : ℕ → Bool) (i m : ℕ) → filter (λ j. p j && eqb i j) (up_to m) ≡ only (ltb i m && p i) (i ∷ [])
pick p i m =
    by_le m i
    (λ h. rw (le-ltb i m h) (pick_beyond p i 0 m (omega arith)))
    (λ h. rw (lt-ltb i m h) (pick_one p i 0 m zero-le (omega arith)))

each_none : {A : Type 0} (b : Bool) (l : List A) (c a m : ℕ) → c < a → each (λ k. only (eqb k c && b) l) (from a m) ≡ []
each_none b l c a zero h = refl
each_none b l c a (suc m) h = rw (ne_eqb a c (omega arith)) (each_none b l c (suc a) m (omega arith))

pub each_one : {A : Type 0} (b : Bool) (l : List A) (c a m : ℕ) → a ≤ c → c < a + m → each (λ k. only (eqb k c && b) l) (from a m) ≡ only b l
each_one b l c a zero h k = absurd (lt_irrefl c (omega arith))
each_one b l c a (suc m) h k =
    by_le c a
    (λ u.
    let e : a ≡ c = omega arith in
    rw (e, eq-eqb c c refl, each_none b l c (suc c) m (lt-suc_self c)) (append-nil (only b l)))
    (λ u. rw (ne_eqb a c (omega arith)) (each_one b l c (suc a) m u (omega arith)))

-- ---- one more at the end: what a loop over a range needs

pub from_snoc : (i m : ℕ) → from i (suc m) ≡ from i m ++ ((i + m) ∷ [])
from_snoc i zero = rw add-zero
from_snoc i (suc m) = ap (λ (l : List ℕ). i ∷ l) (from_snoc (suc i) m ∙ rw (suc-add i m, add-suc i m))

pub up_to_snoc : (m : ℕ) → up_to (m + 1) ≡ up_to m ++ (m ∷ [])
up_to_snoc m = rw add-one (from_snoc 0 m ∙ rw zero-add)

pub filter_snoc : (p : ℕ → Bool) (m : ℕ) → filter p (up_to (m + 1)) ≡ filter p (up_to m) ++ keep (p m) m []
filter_snoc p m = rw up_to_snoc (filter_append p (up_to m) (m ∷ []))

pub each_snoc : {A : Type 0} (f : ℕ → List A) (m : ℕ) → each f (up_to (m + 1)) ≡ each f (up_to m) ++ f m
each_snoc f m = rw up_to_snoc (each_append f (up_to m) (m ∷ []) ∙ ap (λ (t : List _). each f (up_to m) ++ t) (append-nil (f m)))
