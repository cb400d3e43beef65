-- The digits that a text begins with, and the number that they say, one after the other. Assumes nothing.
use mathlib.Core.Path.{◌≡◌, refl, sym, ap, ◌∙◌}
use mathlib.Core.Bool.{true, false, ◌&&◌}
use mathlib.Core.List.{List, [], ◌∷◌}
use Prim.Native.Nat.{ℕ, ◌+◌, ◌-◌, ◌*◌, ◌≤◌, ◌<◌}
use native.Mathlib.Numerals.{add-one}
use native.Mathlib.Omega.{arith}
use lib.Dec.{leb}
use lib.ListN.{length, get_or, take, drop, drop_of_length-le}
use lib.Seq.{drop-cons}
use Rattle.std.proofs.Math.Numerals.{one-add}
use borrow.Author.Tests.{leb-true}
use Rattle.std.specs.Char.{is_ascii_digit}
use Rattle.std.specs.List.{prefix_len}
use Rattle.std.specs.Prelude.{Option, Some, None}
use Rattle.laws.specs.Lists.{all}
use Rattle.laws.proofs.Tests.{by_bool, both_true, fst_true, snd_true}
use Rattle.laws.proofs.Passing.{all_at}
use Rattle.rules.proofs.Decimals.{digit_range, tens, tens_rise}
use Rattle.rules.specs.Text.{is_digit, digits, value, is_decimal}
use Rattle.sheet.specs.Places.{decimal_at}
use Rattle.sheet.specs.declared.decimals.Decimal.{Decimal}

-- ---- the digits that a text begins with

ascii_digit : (b : ℕ) → is_ascii_digit b ≡ is_digit b
unfolding is_digit
ascii_digit b = refl

pub digits_taken : (l : List ℕ) → take (prefix_len is_ascii_digit l) l ≡ digits l
unfolding digits is_digit
digits_taken [] = refl
digits_taken (b ∷ l) =
    let e = digits_taken l in
    by_bool (is_digit b)
    (λ t. rw (t, one-add) (ap (λ (m : List ℕ). b ∷ m) e))
    (λ t. rw t)

pub digits_alone : (l : List ℕ) → all is_digit (digits l) ≡ true
unfolding digits
digits_alone [] = refl
digits_alone (b ∷ l) = by_bool (is_digit b) (λ e. rw e (both_true e (digits_alone l))) (λ e. rw e)

pub digits_fewer : (l : List ℕ) → length (digits l) ≤ length l
unfolding digits
digits_fewer [] = omega arith
digits_fewer (b ∷ l) = let h = digits_fewer l in by_bool (is_digit b) (λ e. rw e (omega arith)) (λ e. rw e (omega arith))

-- ---- the number that they say

-- n says the first k of the digits; the others are still to read
pub record Reading (l : List ℕ) (n k : ℕ) : Type 0 where
  pub whole : value n (drop k l) ≡ value 0 l
  pub small : n < tens k

module _ (l : List ℕ) (n k : ℕ) (i : Reading l n k) (h : k < length l) where
  pub reading_byte : all is_digit l ≡ true → (48 ≤ get_or l k 0) × (get_or l k 0 ≤ 57)
  reading_byte d = digit_range (get_or l k 0) (all_at is_digit l k h d)

  pub reading_small : length l ≤ 7 → n < 1000000
  reading_small m = omega (arith, i.small, tens_rise k 6 (omega arith))

  pub reading_step : all is_digit l ≡ true → Reading l (10 * n + (get_or l k 0 - 48)) (k + 1)
  unfolding value
  reading_step d =
      let b = reading_byte d in
      let t : tens (k + 1) ≡ 10 * tens k = ap tens (add-one k) in
      record {
        whole = rw add-one (sym (ap (value n) (drop-cons l k 0 h)) ∙ i.whole);
        small = omega (arith, i.small, t);
      }

pub reading_end : (l : List ℕ) (n k : ℕ) → Reading l n k → length l ≤ k → n ≡ value 0 l
unfolding value
reading_end l n k i h = rw (drop_of_length-le l h) at i.whole

-- what reading takes, digit by digit
pub ruleset reading = (reading_small, reading_byte, reading_step, reading_end)

-- ---- a decimal

module _ (text : List ℕ) (at : ℕ) where
  pub past_end : length text < at → ◌≡◌ {A = Option Decimal} None (decimal_at text at)
  unfolding decimal_at is_decimal digits
  past_end h = let k : length text ≤ at = omega arith in rw (drop_of_length-le text k)

  module _ (l : List ℕ) (e : l ≡ digits (drop at text)) where
    pub decimal_said : (n end : ℕ) → is_decimal l ≡ true → n ≡ value 0 l → end ≡ at + length l
        → ◌≡◌ {A = Option Decimal} (Some (record { number = n; end = end })) (decimal_at text at)
    unfolding decimal_at
    decimal_said n end d f g = rw (← e, d, f, g)

    pub decimal_none : is_decimal l ≡ false → ◌≡◌ {A = Option Decimal} None (decimal_at text at)
    unfolding decimal_at
    decimal_none d = rw (← e, d)

pub decimal_few : (l : List ℕ) → is_decimal l ≡ true → length l ≤ 7
unfolding is_decimal
decimal_few l e = leb-true (length l) 7 (snd_true (leb 1 (length l)) _ (fst_true (leb 1 (length l) && leb (length l) 7) _ e))

pub decimal_some : (l : List ℕ) → is_decimal l ≡ true → 1 ≤ length l
unfolding is_decimal
decimal_some l e = leb-true 1 (length l) (fst_true (leb 1 (length l)) _ (fst_true (leb 1 (length l) && leb (length l) 7) _ e))

-- what the decimal at a place takes
pub ruleset a_decimal = (digits_taken, digits_alone, past_end, decimal_said, decimal_none, decimal_few)
