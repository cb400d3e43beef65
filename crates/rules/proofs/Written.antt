-- A text that is written line by line in an order that the paper allows: each line is one line, is read under its key, and says its number.
-- Assumes nothing.
use mathlib.Core.Path.{◌≡◌, refl, sym, ap, ◌∙◌}
use mathlib.Core.Bool.{Bool, true, false, ◌||◌, not}
use mathlib.Core.List.Memᴰ
use mathlib.Core.List.{List, [], ◌∷◌, ◌++◌, map, append_assoc, Memᴰ}
use mathlib.Core.Logic.{⊎_elim}
use Prim.Native.Nat.{ℕ, suc, ◌<◌}
use lib.Dec.{eqb}
use lib.ListN.{length, drop}
use borrow.Author.Tests.{eq-eqb, not-true}
use Rattle.laws.specs.Lists.{all, each, total}
use Rattle.laws.proofs.Tests.{by_bool, fst_true, snd_true, both_true, clash}
use Rattle.rules.specs.Refusals.{pass}
use Rattle.rules.specs.Text.{Key, Start, Tiles, Side, Xlo, Ylo, Xhi, Yhi, X, Y, R, lf, onto, lines, is_digit, word, follow, may_end, ends_footprint, Line, says, begins_with, numbered, read, Told, more, heard, tells, decimal, line_of}
use Rattle.rules.proofs.Decimals.{decimal_digits, digit_not_lf, number_read, number_value}

-- ---- lines written one behind the other

-- the key of a line and its number
abbrev pub Entry : Type 0
Entry = Key × ℕ

unfoldable pub written_line : Entry → List ℕ
written_line p = line_of (word p.0) p.1

unfoldable pub written : List Entry → List ℕ
written ps = each written_line ps

-- each line has a key that may follow the one before it and a number of 1 to 7 digits, and behind the last the text may end
pub data Ordered : Key → List Entry → Type 0 where
  ends : {k : Key} → may_end k ≡ true → Ordered k []
  goes : {k j : Key} {n : ℕ} {ps : List Entry} → Memᴰ j (follow k) → n < 10000000 → Ordered j ps → Ordered k ((j, n) ∷ ps)

-- ---- a written line is one line

unfoldable pub one_line : List ℕ → Bool
one_line l = all (λ b. not (eqb b lf)) l

pub not_lf : (b : ℕ) (l : List ℕ) → one_line (b ∷ l) ≡ true → (eqb b lf ≡ false) × (one_line l ≡ true)
unfolding one_line
not_lf b l e = (not-true (eqb b lf) (fst_true (not (eqb b lf)) (one_line l) e), snd_true (not (eqb b lf)) (one_line l) e)

pub word_line : (k : Key) → one_line (word k) ≡ true
unfolding one_line word
word_line Start = refl
word_line Tiles = refl
word_line Side = refl
word_line Xlo = refl
word_line Ylo = refl
word_line Xhi = refl
word_line Yhi = refl
word_line X = refl
word_line Y = refl
word_line R = refl

digits_line : (l : List ℕ) → all is_digit l ≡ true → one_line l ≡ true
unfolding one_line
digits_line [] h = refl
digits_line (b ∷ l) h =
    both_true (ap not (digit_not_lf b (fst_true (is_digit b) (all is_digit l) h))) (digits_line l (snd_true (is_digit b) (all is_digit l) h))

both_lines : (l m : List ℕ) → one_line l ≡ true → one_line m ≡ true → one_line (l ++ m) ≡ true
unfolding one_line
both_lines [] m h g = g
both_lines (b ∷ l) m h g = both_true (fst_true (not (eqb b lf)) (one_line l) h) (both_lines l m (snd_true (not (eqb b lf)) (one_line l) h) g)

line_alone : (l m : List ℕ) → one_line l ≡ true → lines (l ++ (lf ∷ m)) ≡ (l ++ (lf ∷ [])) ∷ lines m
unfolding lines
line_alone [] m h = refl
line_alone (b ∷ l) m h =
    let n = not_lf b l h in
    rw n.0 (ap (onto b) (line_alone l m n.1))

written_lines : (p : Entry) (m : List ℕ) → lines (written_line p ++ m) ≡ written_line p ∷ lines m
unfolding written_line line_of
written_lines p m =
    let w = word p.0 in
    let d = decimal p.1 in
    let h = both_lines w d (word_line p.0) (digits_line d (decimal_digits p.1)) in
    let e : w ++ (d ++ (lf ∷ [])) ≡ (w ++ d) ++ (lf ∷ []) = sym (append_assoc w d (lf ∷ [])) in
    let f : (w ++ (d ++ (lf ∷ []))) ++ m ≡ (w ++ d) ++ (lf ∷ m) = ap (λ (l : List ℕ). l ++ m) e ∙ append_assoc (w ++ d) (lf ∷ []) m in
    ap lines f ∙ line_alone (w ++ d) m h ∙ ap (λ (l : List ℕ). l ∷ lines m) (sym e)

-- ---- and is read under its key

word_stands : (w m : List ℕ) → (begins_with w (w ++ m) ≡ true) × (drop (length w) (w ++ m) ≡ m)
unfolding begins_with
word_stands [] m = (refl, refl)
word_stands (a ∷ w) m = (rw (eq-eqb a a refl) (word_stands w m).0, (word_stands w m).1)

-- two words differ at a place that both have
unfoldable differ : List ℕ → List ℕ → Bool
differ [] v = false
differ (a ∷ w) [] = false
differ (a ∷ w) (b ∷ v) = not (eqb a b) || differ w v

other_word : (w v m : List ℕ) → differ w v ≡ true → begins_with w (v ++ m) ≡ false
unfolding begins_with differ
other_word [] v m e = clash (sym e)
other_word (a ∷ w) [] m e = clash (sym e)
other_word (a ∷ w) (b ∷ v) m e =
    by_bool (eqb a b) (λ t. rw t (other_word w v m (rw t at e))) (λ t. rw t)

read_here : (k : Key) (ks : List Key) (n : ℕ) → n < 10000000 → read (k ∷ ks) (written_line (k, n)) ≡ says k n
unfolding read numbered written_line line_of
read_here k ks n h =
    let s = word_stands (word k) (decimal n ++ (lf ∷ [])) in
    rw (s.0, s.1, number_read n h, number_value n)

read_there : (k j : Key) (ks : List Key) (n : ℕ) → differ (word k) (word j) ≡ true
    → read (k ∷ ks) (written_line (j, n)) ≡ read ks (written_line (j, n))
unfolding read written_line line_of
read_there k j ks n e = rw (other_word (word k) (word j) (decimal n ++ (lf ∷ [])) e)

-- one key may follow, or a footprint and a question may
one_key : (k j : Key) (n : ℕ) → n < 10000000 → Memᴰ j (k ∷ []) → read (k ∷ []) (written_line (j, n)) ≡ says j n
one_key k j n h m =
    ⊎_elim
    (λ e. ap (λ (i : Key). read (k ∷ []) (written_line (i, n))) e ∙ read_here k [] n h ∙ ap (λ (i : Key). says i n) (sym e))
    (λ t. absurd (Memᴰ.not-nil t))
    (Memᴰ.cases_cons m)

two_keys : (k l j : Key) (n : ℕ) → n < 10000000 → differ (word k) (word l) ≡ true → Memᴰ j (k ∷ l ∷ [])
    → read (k ∷ l ∷ []) (written_line (j, n)) ≡ says j n
two_keys k l j n h d m =
    ⊎_elim
    (λ e. ap (λ (i : Key). read (k ∷ l ∷ []) (written_line (i, n))) e ∙ read_here k (l ∷ []) n h ∙ ap (λ (i : Key). says i n) (sym e))
    (λ t.
    ⊎_elim
    (λ e.
    read_there k j (l ∷ []) n (ap (λ (i : Key). differ (word k) (word i)) e ∙ d)
    ∙ one_key l j n h (Memᴰ.head e))
    (λ u. absurd (Memᴰ.not-nil u))
    (Memᴰ.cases_cons t))
    (Memᴰ.cases_cons m)

read_written : (k j : Key) (n : ℕ) → n < 10000000 → Memᴰ j (follow k) → read (follow k) (written_line (j, n)) ≡ says j n
unfolding follow word differ
read_written Start j n h m = one_key Tiles j n h m
read_written Tiles j n h m = one_key Side j n h m
read_written Side j n h m = two_keys Xlo X j n h refl m
read_written Xlo j n h m = one_key Ylo j n h m
read_written Ylo j n h m = one_key Xhi j n h m
read_written Xhi j n h m = one_key Yhi j n h m
read_written Yhi j n h m = two_keys Xlo X j n h refl m
read_written X j n h m = one_key Y j n h m
read_written Y j n h m = one_key R j n h m
read_written R j n h m = one_key X j n h m

-- ---- a text that is written so is good, and says its numbers

unfoldable pub told_by : List Entry → Told
told_by ps = record {
  said = map (λ (p : Entry). p.1) ps;
  footprints = total (λ (p : Entry). ends_footprint p.0) ps;
  verdict = pass;
}

pub written_told : {k : Key} {ps : List Entry} → Ordered k ps → (i : ℕ) → tells k i (lines (written ps)) ≡ told_by ps
unfolding written tells lines told_by
written_told {k} (ends e) i = rw e
written_told {k} (goes {j = j} {n = n} {ps = ps} m h o) i =
    ap (tells k i) (written_lines (j, n) (written ps))
    ∙ ap (λ (r : Line). heard i r (λ (next : Key). tells next (suc i) (lines (written ps)))) (read_written k j n h m)
    ∙ ap (more j n) (written_told o (suc i))
