-- Boxes: a range of m×n numbers as m rows of n, and a filter that passes only inside a box of rows and columns. Assumes nothing.
use mathlib.Core.Path.{◌≡◌, refl, sym, ap, ap₂, ◌∙◌}
use mathlib.Core.Bool.{Bool, true, false}
use mathlib.Core.List.{List, [], ◌∷◌, ◌++◌, append-nil}
use Prim.Native.Nat.{ℕ, zero, suc, ◌+◌, ◌-◌, ◌*◌, ◌≤◌, ◌<◌}
use native.Mathlib.Nat.{zero-add, suc-mul, zero-mul, lt_irrefl}
use native.Mathlib.Omega.{arith}
use Rattle.laws.specs.Lists.{filter, from, up_to, each}
use Rattle.laws.proofs.Tests.{by_bool}
use Rattle.laws.proofs.Lists.{filter_append, filter_each, filter_none, each_append}
use Rattle.laws.proofs.Ranges.{from_append, from_snoc, filter_from, each_from}

-- m rows of n numbers, one behind the other
pub rows_are : (m n : ℕ) → up_to (m * n) ≡ each (λ row. from (row * n) n) (up_to m)
rows_are zero n = rw zero-mul
rows_are (suc m) n =
    ap up_to (suc-mul m n) ∙ from_append 0 (m * n) n
    ∙ ap₂ ◌++◌ (rows_are m n) (ap (λ (k : ℕ). from k n) (zero-add (m * n)) ∙ sym (append-nil (from (m * n) n)) ∙ ap (λ (k : ℕ). each (λ row. from (row * n) n) (k ∷ [])) (sym (zero-add m)))
    ∙ sym (each_append (λ row. from (row * n) n) (up_to m) ((0 + m) ∷ []))
    ∙ ap (each (λ row. from (row * n) n)) (sym (from_snoc 0 m))

-- ---- what passes only in a window of a range is what passes in the window

none_pass : (p : ℕ → Bool) (i m : ℕ) → ((k : ℕ) → i ≤ k → k < i + m → p k ≡ false) → filter p (from i m) ≡ []
none_pass p i m h = filter_from p (λ _. false) i m h ∙ filter_none (from i m)

nothing_brought : {A : Type 0} (f : ℕ → List A) (i m : ℕ) → ((k : ℕ) → i ≤ k → k < i + m → f k ≡ []) → each f (from i m) ≡ []
nothing_brought f i zero h = refl
nothing_brought f i (suc m) h = ap₂ ◌++◌ (h i (omega arith) (omega arith)) (nothing_brought f (suc i) m (λ k u v. h k (omega arith) (omega arith)))

three_parts : (i a k b : ℕ) → from i (a + k + b) ≡ (from i a ++ from (i + a) k) ++ from (i + (a + k)) b
three_parts i a k b = from_append i (a + k) b ∙ ap (λ (l : List ℕ). l ++ from (i + (a + k)) b) (from_append i a k)

pub filter_window : (p : ℕ → Bool) (i a k b : ℕ) → ((j : ℕ) → i ≤ j → j < i + a → p j ≡ false)
    → ((j : ℕ) → i + (a + k) ≤ j → j < i + (a + k) + b → p j ≡ false) → filter p (from i (a + k + b)) ≡ filter p (from (i + a) k)
filter_window p i a k b below above =
    ap (filter p) (three_parts i a k b)
    ∙ filter_append p (from i a ++ from (i + a) k) (from (i + (a + k)) b)
    ∙ ap₂ ◌++◌
    (filter_append p (from i a) (from (i + a) k) ∙ ap (λ (l : List ℕ). l ++ filter p (from (i + a) k)) (none_pass p i a below))
    (none_pass p (i + (a + k)) b above)
    ∙ append-nil (filter p (from (i + a) k))

pub each_window : {A : Type 0} (f : ℕ → List A) (i a k b : ℕ) → ((j : ℕ) → i ≤ j → j < i + a → f j ≡ [])
    → ((j : ℕ) → i + (a + k) ≤ j → j < i + (a + k) + b → f j ≡ []) → each f (from i (a + k + b)) ≡ each f (from (i + a) k)
each_window {A} f i a k b below above =
    ap (each f) (three_parts i a k b)
    ∙ each_append f (from i a ++ from (i + a) k) (from (i + (a + k)) b)
    ∙ ap₂ ◌++◌
    (each_append f (from i a) (from (i + a) k) ∙ ap (λ (l : List A). l ++ each f (from (i + a) k)) (nothing_brought f i a below))
    (nothing_brought f (i + (a + k)) b above)
    ∙ append-nil (each f (from (i + a) k))

-- ---- what passes only in the box of rs rows from r on and cs columns from c on, of m rows and n columns

module _ (p : ℕ → Bool) (m n r rs ra c cs ca : ℕ) (em : r + rs + ra ≡ m) (en : c + cs + ca ≡ n)
    (inside : (row col : ℕ) → row < m → col < n → p (row * n + col) ≡ true → (r ≤ row) × (row < r + rs) × (c ≤ col) × (col < c + cs)) where
  abbrev whole : ℕ → List ℕ
  whole row = filter p (from (row * n) n)

  -- number k of a row is that of the column k − row×n
  fails : (row k : ℕ) → row < m → row * n ≤ k → k < row * n + n
      → ((r ≤ row) × (row < r + rs) × (c ≤ k - row * n) × (k - row * n < c + cs) → ⊥) → p k ≡ false
  fails row k h u v out =
      let e : row * n + (k - row * n) ≡ k = omega arith in
      by_bool (p k) (λ t. absurd (out (inside row (k - row * n) h (omega arith) (rw e t)))) (λ f. f)

  row_away : (row : ℕ) → row < m → ((r ≤ row) × (row < r + rs) → ⊥) → whole row ≡ []
  row_away row h away = none_pass p (row * n) n (λ k u v. fails row k h u v (λ w. away (w.0, w.1)))

  row_window : (row : ℕ) → row < m → whole row ≡ filter p (from (row * n + c) cs)
  row_window row h =
      ap (λ (k : ℕ). filter p (from (row * n) k)) (sym en)
      ∙ filter_window p (row * n) c cs ca
      (λ k u v. fails row k h u (omega arith) (λ w. let a = w.2 in lt_irrefl k (omega arith)))
      (λ k u v. fails row k h (omega arith) (omega arith) (λ w. let a = w.3 in lt_irrefl k (omega arith)))

  pub box : filter p (up_to (m * n)) ≡ each (λ row. filter p (from (row * n + c) cs)) (from r rs)
  box =
      ap (filter p) (rows_are m n)
      ∙ filter_each p (λ row. from (row * n) n) (up_to m)
      ∙ ap (λ (k : ℕ). each whole (from 0 k)) (sym em)
      ∙ each_window whole 0 r rs ra
      (λ row u v. row_away row (omega arith) (λ w. lt_irrefl row (omega arith)))
      (λ row u v. row_away row (omega arith) (λ w. lt_irrefl row (omega arith)))
      ∙ ap (λ (k : ℕ). each whole (from k rs)) (zero-add r)
      ∙ each_from whole (λ row. filter p (from (row * n + c) cs)) r rs (λ row u v. row_window row (omega arith))
