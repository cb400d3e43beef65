-- What is read at a place is what the definition reads from the first line there, and the place behind it is where the next line begins.
-- Assumes nothing.
use mathlib.Core.Path.{◌≡◌, refl, sym, ap, ◌∙◌}
use mathlib.Core.Bool.{Bool, true, ◌&&◌}
use mathlib.Core.List.{List, [], ◌∷◌}
use Prim.Native.Nat.{ℕ, suc, ◌+◌, ◌≤◌, ◌<◌}
use native.Mathlib.Omega.{arith}
use lib.Dec.{eqb, leb}
use lib.ListN.{length, get_or, drop, get_or-eq_default}
use lib.Seq.{drop-drop, get_or-drop, drop-cons}
use borrow.Author.Tests.{leb-true, eqb-true}
use Rattle.std.specs.Prelude.{Option, Some, None}
use Rattle.laws.specs.Lists.{all}
use Rattle.laws.proofs.Tests.{by_bool, by_le, fst_true, snd_true}
use Rattle.rules.proofs.Written.{word_line}
use Rattle.rules.proofs.Counted.{wordy, follow_wordy}
use Rattle.rules.specs.Text as text
use Rattle.rules.specs.Text.{lf, lines, digits, after_digits, value, is_decimal, is_number, word, follow, begins_with, numbered, read, bad, says, stopped, more, heard, tells}
use Rattle.rules.specs.Refusals.{refuse}
use Rattle.rules.specs.declared.Refusal.TheVariants.{Text}
use Rattle.sheet.specs.Places.{key_of, coded, decimal_at, numbered_at, read_at}
use Rattle.sheet.specs.declared.lines.Line.{Line}
use Rattle.sheet.proofs.Words.{key_coded}
use Rattle.sheet.proofs.FirstLine.{first_line, behind_line, lines_first, word_first, word_behind, digits_first, after_digits_first, behind_line_digits, after_digits_drop, lf_first, behind_line_lf}

-- what a line of the code says
unfoldable pub line_said : Option Line → text.Line
line_said None = bad
line_said (Some a) = says (key_of a.key) a.number

-- ---- a number and its LF

module _ (k : text.Key) (l : List ℕ) (at : ℕ) where
  -- how many digits stand at the place, and whether LF follows them
  abbrev many : ℕ
  many = length (digits (drop at l))

  abbrev lf_next : Bool
  lf_next = eqb (get_or l (at + many) 0) lf

  next_byte : get_or (after_digits (drop at l)) 0 0 ≡ get_or l (at + many) 0
  next_byte =
      let z : at + (many + 0) ≡ at + many = omega arith in
      ap (λ (m : List ℕ). get_or m 0 0) (after_digits_drop (drop at l)) ∙ get_or-drop many (drop at l) 0 0 ∙ get_or-drop at l (many + 0) 0
      ∙ ap (λ (j : ℕ). get_or l j 0) z

  number_first : is_number (first_line (drop at l)) ≡ (is_decimal (digits (drop at l)) && lf_next)
  unfolding is_number
  number_first =
      rw (digits_first (drop at l), after_digits_first (drop at l), lf_first (after_digits (drop at l)), next_byte)

  pub numbered_agrees : numbered k (first_line (drop at l)) ≡ line_said (numbered_at k l at)
  unfolding numbered numbered_at decimal_at line_said
  numbered_agrees =
      by_bool (is_decimal (digits (drop at l)))
      (λ e.
      by_bool lf_next
      (λ f. rw (number_first, digits_first (drop at l), e, f, key_coded k))
      (λ f. rw (number_first, e, f)))
      (λ e. rw (number_first, e))

  -- a digit stands there, and the LF is a byte of the text
  decimal_some : is_decimal (digits (drop at l)) ≡ true → 1 ≤ many
  unfolding is_decimal
  decimal_some e =
      leb-true 1 many (fst_true (leb 1 many) (leb many 7) (fst_true (leb 1 many && leb many 7) _ e))

  lf_within : lf_next ≡ true → at + many < length l
  lf_within e =
      by_le (length l) (at + many)
      (λ h. absurd (omega (arith, sym (get_or-eq_default l 0 h) ∙ eqb-true (get_or l (at + many) 0) lf e)))
      (λ h. h)

  line_behind : lf_next ≡ true → behind_line (drop at l) ≡ drop (at + many + 1) l
  line_behind e =
      behind_line_digits (drop at l)
      ∙ behind_line_lf (after_digits (drop at l)) (ap (λ (b : ℕ). eqb b lf) next_byte ∙ e)
      ∙ ap (drop 1) (after_digits_drop (drop at l) ∙ drop-drop many at l)
      ∙ drop-drop 1 (at + many) l

  pub numbered_behind : (a : Line) → numbered_at k l at ≡ Some a
      → (behind_line (drop at l) ≡ drop a.behind l) × (at + 2 ≤ a.behind) × (a.behind ≤ length l)
  unfolding numbered_at decimal_at
  numbered_behind a h =
      by_bool (is_decimal (digits (drop at l)))
      (λ e.
      by_bool lf_next
      (λ f.
      let s : ◌≡◌ {A = Option Line} (Some (record { key = coded k; number = value 0 (digits (drop at l)); behind = at + many + 1 })) (Some a) = rw (e, f) at h in
      let z : at + many + 1 ≡ a.behind = cc in
      let d = decimal_some e in
      let w = lf_within f in
      (line_behind f ∙ ap (λ (p : ℕ). drop p l) z, omega arith, omega arith))
      (λ f. let s : ◌≡◌ {A = Option Line} None (Some a) = rw (e, f) at h in cc))
      (λ e. let s : ◌≡◌ {A = Option Line} None (Some a) = rw e at h in cc)

-- ---- a line under one of some keys

pub read_agrees : (ks : List text.Key) (l : List ℕ) (at : ℕ) → read ks (first_line (drop at l)) ≡ line_said (read_at ks l at)
unfolding read read_at line_said
read_agrees [] l at = refl
read_agrees (k ∷ ks) l at =
    by_bool (begins_with (word k) (drop at l))
    (λ e.
    let b = word_behind (word k) (drop at l) (word_line k) e in
    rw (word_first (word k) (drop at l) (word_line k), e)
    (ap (numbered k) (b.0 ∙ ap first_line (drop-drop (length (word k)) at l)) ∙ numbered_agrees k l (at + length (word k))))
    (λ e. rw (word_first (word k) (drop at l) (word_line k), e) (read_agrees ks l at))

pub read_behind : (ks : List text.Key) (l : List ℕ) (at : ℕ) (a : Line) → all wordy ks ≡ true → read_at ks l at ≡ Some a
    → (behind_line (drop at l) ≡ drop a.behind l) × (at + 4 ≤ a.behind) × (a.behind ≤ length l)
unfolding read_at wordy
read_behind [] l at a h e = cc
read_behind (k ∷ ks) l at a h e =
    by_bool (begins_with (word k) (drop at l))
    (λ t.
    let b = word_behind (word k) (drop at l) (word_line k) t in
    let r = numbered_behind k l (at + length (word k)) a (rw t at e) in
    let w = leb-true 2 (length (word k)) (fst_true (leb 2 (length (word k))) (all wordy ks) h) in
    (b.1 ∙ ap behind_line (drop-drop (length (word k)) at l) ∙ r.0, omega arith, r.2))
    (λ t. read_behind ks l at a (snd_true (wordy k) (all wordy ks) h) (rw t at e))

-- ---- the lines from a place on

module _ (k : text.Key) (i : ℕ) (l : List ℕ) (at : ℕ) (h : at < length l) where
  tells_first : tells k i (lines (drop at l))
      ≡ heard i (line_said (read_at (follow k) l at)) (λ (next : text.Key). tells next (suc i) (lines (behind_line (drop at l))))
  unfolding tells
  tells_first =
      let d = drop-cons l at 0 h in
      let f : lines (drop at l) ≡ first_line (drop at l) ∷ lines (behind_line (drop at l)) =
      rw d (lines_first (get_or l at 0) (drop (suc at) l)) in
      ap (tells k i) f
      ∙ ap (λ (b : text.Line). heard i b (λ (next : text.Key). tells next (suc i) (lines (behind_line (drop at l)))))
      (read_agrees (follow k) l at)

  pub tells_bad : read_at (follow k) l at ≡ None → tells k i (lines (drop at l)) ≡ stopped (refuse (Text i))
  unfolding line_said
  tells_bad e = tells_first ∙ ap (λ (b : Option Line). heard i (line_said b) (λ (next : text.Key). tells next (suc i) (lines (behind_line (drop at l))))) e

  pub tells_more : (a : Line) → read_at (follow k) l at ≡ Some a
      → tells k i (lines (drop at l)) ≡ more (key_of a.key) a.number (tells (key_of a.key) (suc i) (lines (drop a.behind l)))
  unfolding line_said
  tells_more a e =
      tells_first
      ∙ ap (λ (b : Option Line). heard i (line_said b) (λ (next : text.Key). tells next (suc i) (lines (behind_line (drop at l))))) e
      ∙ ap (λ (m : List ℕ). more (key_of a.key) a.number (tells (key_of a.key) (suc i) (lines m)))
      (read_behind (follow k) l at a (follow_wordy k) e).0
