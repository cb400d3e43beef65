-- A number printed and read again: digit by digit, how many digits it has, and that up to 7 of them say it. Assumes nothing.
use mathlib.Core.Path.{◌≡◌, refl, sym, ap, ◌∙◌}
use mathlib.Core.Bool.{true, false, ◌||◌, not, or-true}
use mathlib.Core.List.{List, [], ◌∷◌, ◌++◌}
use Prim.Native.Nat.{ℕ, zero, suc, ◌+◌, ◌-◌, ◌*◌, ◌/◌, ◌%◌, ◌≤◌, ◌<◌}
use native.Mathlib.Omega.{arith}
use lib.Dec.{leb, eqb}
use lib.ListN.{length, get_or, length-append, get_or-append}
use borrow.Author.Tests.{lt-ltb, le-ltb, leb-true, le-leb, eq-eqb, ne_eqb}
use Rattle.laws.specs.Lists.{all}
use Rattle.laws.proofs.Tests.{by_le, fst_true, snd_true, both_true}
use Rattle.rules.specs.Text.{most_digits, lf, is_digit, digits, after_digits, value, is_decimal, is_number, spelled, decimal}

-- ---- digit by digit

spelled_enough : (j k n : ℕ) → n < j → n < k → spelled j n ≡ spelled k n
unfolding spelled
spelled_enough zero k n h g = absurd (omega arith)
spelled_enough (suc j) zero n h g = absurd (omega arith)
spelled_enough (suc j) (suc k) n h g =
    by_le 10 n
    (λ e. rw (le-ltb n 10 e) (ap (λ (l : List ℕ). l ++ ((48 + n % 10) ∷ [])) (spelled_enough j k (n / 10) (omega arith) (omega arith))))
    (λ e. rw (lt-ltb n 10 e))

pub decimal_one : (n : ℕ) → n < 10 → decimal n ≡ (48 + n) ∷ []
unfolding decimal spelled
decimal_one n h = rw (lt-ltb n 10 h)

pub decimal_more : (n : ℕ) → 10 ≤ n → decimal n ≡ decimal (n / 10) ++ ((48 + n % 10) ∷ [])
unfolding decimal spelled
decimal_more n h =
    rw (le-ltb n 10 h) (ap (λ (l : List ℕ). l ++ ((48 + n % 10) ∷ [])) (spelled_enough n (suc (n / 10)) (n / 10) (omega arith) (omega arith)))

-- what holds of one digit, and behind a last digit, holds of every decimal
by_digits : (P : ℕ → List ℕ → Type 0) → ((n : ℕ) → n < 10 → P n ((48 + n) ∷ []))
    → ((n : ℕ) (l : List ℕ) → 10 ≤ n → P (n / 10) l → P n (l ++ ((48 + n % 10) ∷ []))) → (k n : ℕ) → n < k → P n (decimal n)
by_digits P one more zero n h = absurd (omega arith)
by_digits P one more (suc k) n h =
    by_le 10 n
    (λ e. rw (decimal_more n e) (more n (decimal (n / 10)) e (by_digits P one more k (n / 10) (omega arith))))
    (λ e. rw (decimal_one n e) (one n e))

-- ---- its digits say the number

value_last : (m b : ℕ) (l : List ℕ) → value m (l ++ (b ∷ [])) ≡ 10 * value m l + (b - 48)
unfolding value
value_last m b [] = refl
value_last m b (a ∷ l) = value_last (10 * m + (a - 48)) b l

pub decimal_says : (n : ℕ) → value 0 (decimal n) ≡ n
unfolding value
decimal_says n =
    by_digits (λ (m : ℕ) (l : List ℕ). value 0 l ≡ m)
    (λ m h. omega arith)
    (λ m l h e. value_last 0 (48 + m % 10) l ∙ omega (arith, e))
    (suc n) n (omega arith)

digit : (n : ℕ) → n < 10 → is_digit (48 + n) ≡ true
unfolding is_digit
digit n h = both_true (le-leb 48 (48 + n) (omega arith)) (le-leb (48 + n) 57 (omega arith))

all_last : (b : ℕ) (l : List ℕ) → all is_digit l ≡ true → is_digit b ≡ true → all is_digit (l ++ (b ∷ [])) ≡ true
all_last b [] h e = rw e
all_last b (a ∷ l) h e =
    both_true (fst_true (is_digit a) (all is_digit l) h) (all_last b l (snd_true (is_digit a) (all is_digit l) h) e)

pub decimal_digits : (n : ℕ) → all is_digit (decimal n) ≡ true
decimal_digits n =
    by_digits (λ (m : ℕ) (l : List ℕ). all is_digit l ≡ true)
    (λ m h. both_true (digit m h) refl)
    (λ m l h e. all_last (48 + m % 10) l e (digit (m % 10) (omega arith)))
    (suc n) n (omega arith)

-- ---- a digit is no LF

pub digit_range : (b : ℕ) → is_digit b ≡ true → (48 ≤ b) × (b ≤ 57)
unfolding is_digit
digit_range b e = (leb-true 48 b (fst_true (leb 48 b) (leb b 57) e), leb-true b 57 (snd_true (leb 48 b) (leb b 57) e))

pub digit_not_lf : (b : ℕ) → is_digit b ≡ true → eqb b lf ≡ false
digit_not_lf b e = ne_eqb b lf (λ z. let r = digit_range b e in omega arith)

-- ---- how many digits

-- 10 to the power of k
abbrev pub tens : ℕ → ℕ
tens zero = 1
tens (suc k) = 10 * tens k

pub tens_rise : (k m : ℕ) → k ≤ m → tens k ≤ tens m
tens_rise zero zero h = omega arith
tens_rise zero (suc m) h = omega (arith, tens_rise zero m (omega arith))
tens_rise (suc k) zero h = absurd (omega arith)
tens_rise (suc k) (suc m) h = omega (arith, tens_rise k m (omega arith))

pub decimal_some : (n : ℕ) → 1 ≤ length (decimal n)
decimal_some n =
    by_digits (λ (m : ℕ) (l : List ℕ). 1 ≤ length l)
    (λ m h. omega arith)
    (λ m l h e. omega (arith, length-append l ((48 + m % 10) ∷ [])))
    (suc n) n (omega arith)

pub decimal_length : (k n : ℕ) → n < tens (suc k) → length (decimal n) ≤ suc k
decimal_length zero n h = rw (decimal_one n (omega arith)) (omega arith)
decimal_length (suc k) n h =
    by_le 10 n
    (λ e. rw (decimal_more n e) (omega (arith, length-append (decimal (n / 10)) ((48 + n % 10) ∷ []), decimal_length k (n / 10) (omega arith))))
    (λ e. rw (decimal_one n e) (omega arith))

-- ---- no leading zero

decimal_first : (n : ℕ) → 1 ≤ n → (1 ≤ length (decimal n)) × (get_or (decimal n) 0 0 ≡ 48 → ⊥)
decimal_first n =
    by_digits (λ (m : ℕ) (l : List ℕ). 1 ≤ m → (1 ≤ length l) × (get_or l 0 0 ≡ 48 → ⊥))
    (λ m h p. (omega arith, λ e. omega arith))
    (λ m l h e p.
    let q = e (omega arith) in (
      omega (arith, length-append l ((48 + m % 10) ∷ []), q.0),
      λ z. q.1 (sym (get_or-append l ((48 + m % 10) ∷ []) 0 0 q.0) ∙ z),
    ))
    (suc n) n (omega arith)

pub decimal_good : (n : ℕ) → n < 10000000 → is_decimal (decimal n) ≡ true
unfolding is_decimal
decimal_good n h =
    both_true (both_true (le-leb 1 (length (decimal n)) (decimal_some n)) (le-leb (length (decimal n)) most_digits (omega (arith, decimal_length 6 n h))))
    (by_le 10 n (λ e. lead (ne_eqb (get_or (decimal n) 0 0) 48 (decimal_first n (omega arith)).1)) (λ e. single (decimal_one n e)))
  where
    single : decimal n ≡ (48 + n) ∷ [] → (eqb (length (decimal n)) 1 || not (eqb (get_or (decimal n) 0 0) 48)) ≡ true
    single e = rw (eq-eqb (length (decimal n)) 1 (ap length e))

    lead : eqb (get_or (decimal n) 0 0) 48 ≡ false → (eqb (length (decimal n)) 1 || not (eqb (get_or (decimal n) 0 0) 48)) ≡ true
    lead e = rw e (or-true (eqb (length (decimal n)) 1))

-- ---- what is printed is read

-- digits in front of another byte are all that is read
pub digits_before : (l m : List ℕ) (b : ℕ) → all is_digit l ≡ true → is_digit b ≡ false
    → (digits (l ++ (b ∷ m)) ≡ l) × (after_digits (l ++ (b ∷ m)) ≡ b ∷ m)
unfolding digits after_digits
digits_before [] m b h e = (rw e, rw e)
digits_before (a ∷ l) m b h e =
    let r = digits_before l m b (snd_true (is_digit a) (all is_digit l) h) e in
    let d = fst_true (is_digit a) (all is_digit l) h in
    (rw d (ap (◌∷◌ a) r.0), rw d r.1)

pub lf_no_digit : is_digit lf ≡ false
unfolding is_digit
lf_no_digit = refl

pub number_read : (n : ℕ) → n < 10000000 → is_number (decimal n ++ (lf ∷ [])) ≡ true
unfolding is_number
number_read n h =
    let r = digits_before (decimal n) [] lf (decimal_digits n) lf_no_digit in
    rw (r.0, r.1, decimal_good n h)

pub number_value : (n : ℕ) → value 0 (digits (decimal n ++ (lf ∷ []))) ≡ n
number_value n = ap (value 0) (digits_before (decimal n) [] lf (decimal_digits n) lf_no_digit).0 ∙ decimal_says n
