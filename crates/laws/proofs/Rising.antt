-- A list that rises and passes a test throughout is no longer than the numbers that pass it, and is all of them where it is as long.
-- Assumes nothing.
use mathlib.Core.Path.{◌≡◌, refl, sym, ap, ◌∙◌, subst}
use mathlib.Core.Bool.{Bool, true, false, ◌&&◌}
use mathlib.Core.List.{List, [], ◌∷◌}
use Prim.Native.Nat.{ℕ, zero, suc, ◌+◌, ◌≤◌, zero-le, suc-le-suc}
use native.Mathlib.Nat.{lt_irrefl, le_refl, le_of_suc-le-suc}
use native.Mathlib.Omega.{arith}
use lib.Dec.{leb, ltb}
use lib.ListN.{length}
use borrow.Author.Tests.{leb-true, ltb-true, le-leb, lt-ltb}
use Rattle.laws.specs.Lists.{keep, filter, from}
use Rattle.laws.proofs.Lists.{empty}
use Rattle.laws.specs.Rising.{rising, below}
use Rattle.laws.proofs.Tests.{by_le, fst_true, snd_true, both_true}

-- no longer, and the same where it is as long
abbrev pub Fits : List ℕ → List ℕ → Type 0
Fits l m = (length l ≤ length m) × (length m ≤ length l → l ≡ m)

-- one more before both, or before the longer alone
fits_more : (i : ℕ) (l m : List ℕ) → Fits l m → Fits (i ∷ l) (i ∷ m)
fits_more i l m f = (suc-le-suc f.0, λ h. ap (λ (t : List ℕ). i ∷ t) (f.1 (le_of_suc-le-suc h)))

fits_keep : (b : Bool) (i : ℕ) (l m : List ℕ) → Fits l m → Fits l (keep b i m)
fits_keep true i l m f = (omega (arith, f.0), λ h. absurd (lt_irrefl (length l) (omega (arith, f.0))))
fits_keep false i l m f = f

module _ (p : ℕ → Bool) (n : ℕ) where
  pub rising_fits : (i m : ℕ) → i + m ≡ n → (l : List ℕ) → rising (below n p) i l ≡ true → Fits l (filter p (from i m))
  rising_fits i m e [] r = (zero-le, λ h. sym (empty (filter p (from i m)) h))
  rising_fits i zero e (x ∷ l) r =
      let u = fst_true (leb i x && below n p x) (rising (below n p) (suc x) l) r in
      let lo = leb-true i x (fst_true (leb i x) (below n p x) u) in
      let hi = ltb-true x n (fst_true (ltb x n) (p x) (snd_true (leb i x) (below n p x) u)) in
      absurd (lt_irrefl x (omega arith))
  rising_fits i (suc m) e (x ∷ l) r =
      let u = fst_true (leb i x && below n p x) (rising (below n p) (suc x) l) r in
      let v = snd_true (leb i x) (below n p x) u in
      let w = snd_true (leb i x && below n p x) (rising (below n p) (suc x) l) r in
      let lo = leb-true i x (fst_true (leb i x) (below n p x) u) in
      by_le x i
      (λ h.
      let q : x ≡ i = omega arith in
      let t : p i ≡ true = sym (ap p q) ∙ snd_true (ltb x n) (p x) v in
      let s : rising (below n p) (suc i) l ≡ true = subst (λ (y : ℕ). rising (below n p) (suc y) l ≡ true) q w in
      rw (q, t) (fits_more i l (filter p (from (suc i) m)) (rising_fits (suc i) m (omega arith) l s)))
      (λ h.
      fits_keep (p i) i (x ∷ l) (filter p (from (suc i) m))
      (rising_fits (suc i) m (omega arith) (x ∷ l) (both_true (both_true (le-leb (suc i) x h) v) w)))

  -- the numbers that pass rise
  pub filter_rises : (i m least : ℕ) → least ≤ i → i + m ≡ n → rising (below n p) least (filter p (from i m)) ≡ true
  filter_rises i zero least h e = refl
  filter_rises i (suc m) least h e = go (p i) refl (filter_rises (suc i) m (suc i) (le_refl (suc i)) (omega arith)) (filter_rises (suc i) m least (omega arith) (omega arith))
    where
      go : (b : Bool) → p i ≡ b → rising (below n p) (suc i) (filter p (from (suc i) m)) ≡ true
          → rising (below n p) least (filter p (from (suc i) m)) ≡ true
          → rising (below n p) least (keep b i (filter p (from (suc i) m))) ≡ true
      go true t after same = both_true (both_true (le-leb least i h) (both_true (lt-ltb i n (omega arith)) t)) after
      go false t after same = same
