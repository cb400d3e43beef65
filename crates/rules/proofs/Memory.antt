-- The rows of a front's memory: counted, read, written, laid out. Assumes nothing.
use mathlib.Core.Path.{◌≡◌, refl, sym, ap, ap₂, ◌∙◌}
use mathlib.Core.List.{List, [], ◌∷◌, ◌++◌, append-nil}
use Prim.Native.Nat.{ℕ, zero, suc, ◌+◌, ◌-◌, ◌*◌, ◌/◌, ◌<◌, ◌≤◌}
use native.Mathlib.Nat.{not-suc-le-zero, le_of_suc-le-suc}
use native.Mathlib.Omega.{arith}
use lib.ListN.{length, get_or, set, take, drop, replicate, length-append, length-replicate, drop_of_length-le}
use lib.Seq.{take-append_seam}
use Rattle.rules.specs.Front.{three, rows, flat, laid}
use Rattle.rules.specs.Merge.{none, rest}
use Rattle.rules.specs.declared.Three.{Three}

-- ---- how many there are

pub rows_and_rest : (l : List ℕ) → (3 * length (rows l) + length (rest l) ≡ length l) × (length (rest l) ≤ 2)
unfolding rows rest
rows_and_rest [] = (omega arith, omega arith)
rows_and_rest (a ∷ []) = (omega arith, omega arith)
rows_and_rest (a ∷ b ∷ []) = (omega arith, omega arith)
rows_and_rest (a ∷ b ∷ c ∷ l) = let e = rows_and_rest l in (omega arith, e.1)

pub length_rows : (l : List ℕ) → length (rows l) ≡ length l / 3
length_rows l = let e = rows_and_rest l in omega arith

pub length_flat : (r : List Three) → length (flat r) ≡ 3 * length r
unfolding flat
length_flat [] = refl
length_flat (a ∷ r) = omega (arith, length_flat r)

-- ---- rows as numbers, and back

pub rows_flat_append : (r : List Three) (l : List ℕ) → rows (flat r ++ l) ≡ r ++ rows l
unfolding rows flat
rows_flat_append [] l = refl
rows_flat_append (a ∷ r) l = ap (λ (m : List Three). a ∷ m) (rows_flat_append r l)

pub rows_flat : (r : List Three) → rows (flat r) ≡ r
unfolding rows flat
rows_flat [] = refl
rows_flat (a ∷ r) = ap (λ (m : List Three). a ∷ m) (rows_flat r)

pub flat_append : (r s : List Three) → flat (r ++ s) ≡ flat r ++ flat s
unfolding flat
flat_append [] s = refl
flat_append (a ∷ r) s = ap (λ (m : List ℕ). a.square ∷ a.kind ∷ a.number ∷ m) (flat_append r s)

-- a front is its whole rows and the numbers past them
pub whole_front : (l : List ℕ) → flat (rows l) ++ rest l ≡ l
unfolding rows rest flat
whole_front [] = refl
whole_front (a ∷ []) = refl
whole_front (a ∷ b ∷ []) = refl
whole_front (a ∷ b ∷ c ∷ l) = ap (λ (r : List ℕ). a ∷ b ∷ c ∷ r) (whole_front l)

-- so two fronts of the same rows and the same numbers past them are the same
pub same_front : (l m : List ℕ) → rows l ≡ rows m → rest l ≡ rest m → l ≡ m
same_front l m e f = sym (whole_front l) ∙ ap₂ (λ (r : List Three) (s : List ℕ). flat r ++ s) e f ∙ whole_front m

pub take_rows : (k : ℕ) (l : List ℕ) → k ≤ length (rows l) → take (3 * k) l ≡ flat (take k (rows l))
unfolding rows flat
take_rows zero l h = refl
take_rows (suc k) [] h = absurd (not-suc-le-zero h)
take_rows (suc k) (a ∷ []) h = absurd (not-suc-le-zero h)
take_rows (suc k) (a ∷ b ∷ []) h = absurd (not-suc-le-zero h)
take_rows (suc k) (a ∷ b ∷ c ∷ l) h =
    let e : 3 * suc k ≡ suc (suc (suc (3 * k))) = omega arith in
    rw e (ap (λ (r : List ℕ). a ∷ b ∷ c ∷ r) (take_rows k l (le_of_suc-le-suc h)))

-- ---- rows laid out, with 0 past them

pub length_laid : (size : ℕ) (r : List Three) → 3 * length r ≤ size → length (laid size r) ≡ size
unfolding laid
length_laid size r h = omega (arith, length-append (flat r) (replicate (size - 3 * length r) 0), length_flat r, length-replicate {A = ℕ} (size - 3 * length r) 0)

pub rows_laid : (size : ℕ) (r : List Three) → rows (laid size r) ≡ r ++ rows (replicate (size - 3 * length r) 0)
unfolding laid
rows_laid size r = rows_flat_append r (replicate (size - 3 * length r) 0)

-- the rows of a front so laid begin with those that wait, for a front of any size
pub take_laid : (size : ℕ) (r : List Three) → take (length r) (rows (laid size r)) ≡ r
take_laid size r = ap (take (length r)) (rows_laid size r) ∙ take-append_seam r (rows (replicate (size - 3 * length r) 0))

-- a front whose first rows wait and whose other numbers are 0
pub laid_is : (l : List ℕ) (k size : ℕ) (w : List Three) → length l ≡ size → k ≤ length (rows l) → k ≡ length w → take k (rows l) ≡ w
    → take (3 * k) l ++ (replicate (length l - 3 * k) 0 ++ drop (length l) l) ≡ laid size w
unfolding laid
laid_is l k size w e h n f =
    rw (drop_of_length-le l {i = length l} (omega arith), append-nil {A = ℕ} (replicate (length l - 3 * k) 0), take_rows k l h, f, e, n) refl

-- ---- one row read, one row written

pub read_row : (l : List ℕ) (i : ℕ) → i < length (rows l) → three (get_or l (3 * i) 0) (get_or l (3 * i + 1) 0) (get_or l (3 * i + 2) 0) ≡ get_or (rows l) i none
unfolding rows
read_row [] i h = absurd (not-suc-le-zero h)
read_row (a ∷ []) i h = absurd (not-suc-le-zero h)
read_row (a ∷ b ∷ []) i h = absurd (not-suc-le-zero h)
read_row (a ∷ b ∷ c ∷ l) zero h = refl
read_row (a ∷ b ∷ c ∷ l) (suc i) h =
    let e : 3 * suc i ≡ suc (suc (suc (3 * i))) = omega arith in
    let f : 3 * suc i + 1 ≡ suc (suc (suc (3 * i + 1))) = omega arith in
    let g : 3 * suc i + 2 ≡ suc (suc (suc (3 * i + 2))) = omega arith in
    rw (g, f, e) (read_row l i (le_of_suc-le-suc h))

-- the three numbers of a row stored at its place
abbrev pub stored : List ℕ → ℕ → Three → List ℕ
stored l i t = set (set (set l (3 * i) t.square) (3 * i + 1) t.kind) (3 * i + 2) t.number

stored_later : (a b c : ℕ) (l : List ℕ) (i : ℕ) (t : Three) → stored (a ∷ b ∷ c ∷ l) (suc i) t ≡ a ∷ b ∷ c ∷ stored l i t
stored_later a b c l i t =
    let e : 3 * suc i ≡ suc (suc (suc (3 * i))) = omega arith in
    let f : 3 * suc i + 1 ≡ suc (suc (suc (3 * i + 1))) = omega arith in
    let g : 3 * suc i + 2 ≡ suc (suc (suc (3 * i + 2))) = omega arith in
    rw (g, f, e) refl

pub write_row : (l : List ℕ) (i : ℕ) (t : Three) → i < length (rows l)
    → (rows (stored l i t) ≡ set (rows l) i t) × (rest (stored l i t) ≡ rest l)
unfolding rows rest
write_row [] i t h = absurd (not-suc-le-zero h)
write_row (a ∷ []) i t h = absurd (not-suc-le-zero h)
write_row (a ∷ b ∷ []) i t h = absurd (not-suc-le-zero h)
write_row (a ∷ b ∷ c ∷ l) zero t h = (refl, refl)
write_row (a ∷ b ∷ c ∷ l) (suc i) t h =
    let e = write_row l i t (le_of_suc-le-suc h) in
    (ap rows (stored_later a b c l i t) ∙ ap (λ (r : List Three). three a b c ∷ r) e.0, ap rest (stored_later a b c l i t) ∙ e.1)
