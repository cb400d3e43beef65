-- A filter of a range that passes exactly the numbers of a line is that line. Assumes nothing.
use mathlib.Core.Path.{◌≡◌, refl, sym, ap, ◌∙◌}
use mathlib.Core.Bool.{Bool, true, false}
use mathlib.Core.List.{List, [], ◌∷◌, Memᴰ}
use Prim.Native.Nat.{ℕ, zero, suc, ◌+◌, ◌*◌, ◌<◌, ◌≤◌}
use native.Mathlib.Nat.{not-suc-le-zero}
use native.Mathlib.Omega.{arith}
use lib.ListN.{length}
use Rattle.laws.specs.Lists.{filter, from}
use Rattle.laws.specs.Lines.{line}
use Rattle.laws.proofs.Tests.{by_le, by_bool, clash}

module _ (p : ℕ → Bool) (d : ℕ) (pos : 0 < d) where
  -- of the k numbers from i on, those that pass are the m numbers from s on, d apart
  pub record OnLine (k i m s : ℕ) : Type 0 where
    pub passes : (j : ℕ) → j < m → (p (s + j * d) ≡ true) × (s + j * d < i + k)
    pub only : (t : ℕ) → i ≤ t → t < i + k → p t ≡ true → (j : ℕ) × (j < m) × (t ≡ s + j * d)

  none : (k i s : ℕ) → OnLine k i 0 s → filter p (from i k) ≡ []
  none zero i s l = refl
  none (suc k) i s l =
      by_bool (p i) (λ e. absurd (not-suc-le-zero (l.only i (omega arith) (omega arith) e).1))
      (λ e. rw e (none k (suc i) s (record { passes = λ j h. absurd (not-suc-le-zero h); only = λ t a b e. l.only t (omega arith) (omega arith) e })))

  module _ (k i m s : ℕ) (h : i ≤ s) (l : OnLine (suc k) i (suc m) s) where
    first : p s ≡ true
    first = let e : s + 0 * d ≡ s = omega arith in rw e at (l.passes 0 (omega arith)).0

    later : p i ≡ false → i < s
    later e = by_le s i (λ g. let q : i ≡ s = omega arith in clash (sym first ∙ ap p (sym q) ∙ e)) (λ g. g)

    rest_same : p i ≡ false → OnLine k (suc i) (suc m) s
    rest_same e = record {
      passes = λ j g. let q = l.passes j g in (q.0, omega arith);
      only = λ t a b f. l.only t (omega arith) (omega arith) f;
    }

    here : p i ≡ true → i ≡ s
    here e = let q = l.only i (omega arith) (omega arith) e in let f = q.2 in omega arith

    rest_next : i ≡ s → OnLine k (suc i) m (s + d)
    rest_next e = record {
      passes = λ j g.
          let f : s + d + j * d ≡ s + suc j * d = omega arith in
          let q = l.passes (suc j) (omega arith) in
          (rw f q.0, omega arith);
      only = λ t a b f. back t a (l.only t (omega arith) (omega arith) f);
    }
      where
        back : (t : ℕ) → suc i ≤ t → (j : ℕ) × (j < suc m) × (t ≡ s + j * d) → (j : ℕ) × (j < m) × (t ≡ s + d + j * d)
        back t a (zero, g, f) = absurd (not-suc-le-zero {n = 0} (omega arith))
        back t a (suc j, g, f) = (j, omega arith, omega arith)

  pub filter_line : (k i m s : ℕ) → i ≤ s → OnLine k i m s → filter p (from i k) ≡ line s d m
  filter_line k i zero s h l = none k i s l
  filter_line zero i (suc m) s h l = let q = (l.passes 0 (omega arith)).1 in absurd (not-suc-le-zero {n = 0} (omega arith))
  filter_line (suc k) i (suc m) s h l =
      by_bool (p i)
      (λ e. let q = here k i m s h l e in
      rw (e, q) (ap (λ (r : List ℕ). s ∷ r) (ap (λ (x : ℕ). filter p (from (suc x) k)) (sym q) ∙ filter_line k (suc i) m (s + d) (omega arith) (rest_next k i m s h l q))))
      (λ e. rw e (filter_line k (suc i) (suc m) s (later k i m s h l e) (rest_same k i m s h l e)))

pub line_mem : (s d m j : ℕ) → j < m → Memᴰ (s + j * d) (line s d m)
line_mem s d zero j h = absurd (not-suc-le-zero h)
line_mem s d (suc m) zero h = let e : s + 0 * d ≡ s = omega arith in Memᴰ.head e
line_mem s d (suc m) (suc j) h = let e : s + suc j * d ≡ s + d + j * d = omega arith in rw e (Memᴰ.tail (line_mem (s + d) d m j (omega arith)))

pub length_line : (s d m : ℕ) → length (line s d m) ≡ m
length_line s d zero = refl
length_line s d (suc m) = ap suc (length_line (s + d) d m)
