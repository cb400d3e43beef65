-- Only a text that is written line by line in the order of the paper is good. Assumes nothing.
use mathlib.Core.Path.{◌≡◌, refl, sym, ap, ap₂, ◌∙◌}
use mathlib.Core.Bool.{true, ◌&&◌, ◌||◌, not}
use mathlib.Core.List.{List, [], ◌∷◌, ◌++◌, append_assoc, append-nil, Memᴰ}
use Prim.Native.Nat.{ℕ, suc, ◌+◌, ◌-◌, ◌*◌, ◌/◌, ◌%◌, ◌≤◌, ◌<◌}
use native.Mathlib.Omega.{arith}
use lib.Dec.{leb, ltb, eqb}
use lib.ListN.{length, drop}
use borrow.Author.Tests.{leb-true, le-ltb, eqb-true, eq-eqb}
use Rattle.laws.specs.Lists.{all, each, same}
use Rattle.laws.proofs.Lists.{empty}
use Rattle.laws.proofs.Tests.{by_bool, by_le, fst_true, snd_true, clash}
use Rattle.laws.proofs.Same.{same_true}
use Rattle.rules.specs.Refusals.{pass, judge}
use Rattle.rules.specs.Text.{Key, Start, lf, onto, lines, is_digit, digits, after_digits, value, is_decimal, is_number, word, follow, may_end, Line, bad, says, begins_with, numbered, read, Told, heard, tells, most_bytes, judged, decimal, line_of}
use Rattle.rules.specs.declared.Refusal.TheVariants.{Text}
use Rattle.rules.proofs.Decimals.{decimal_one, decimal_more, digit_range, tens, tens_rise}
use Rattle.rules.proofs.Counted.{never, mute}
use Rattle.rules.proofs.Written.{Entry, written_line, written, Ordered, ends, goes, told_by, written_told}

-- ---- digits say a number whose decimal they are

last_digit_law : (m b : ℕ) → 1 ≤ m → is_digit b ≡ true → decimal (10 * m + (b - 48)) ≡ decimal m ++ (b ∷ [])
last_digit_law m b h e =
    let r = digit_range b e in
    let n = 10 * m + (b - 48) in
    let q : n / 10 ≡ m = omega arith in
    let d : 48 + n % 10 ≡ b = omega arith in
    decimal_more n (omega arith) ∙ rw (q, d)

more_digits : (m : ℕ) (l : List ℕ) → 1 ≤ m → all is_digit l ≡ true → decimal (value m l) ≡ decimal m ++ l
unfolding value
more_digits m [] h e = sym (append-nil (decimal m))
more_digits m (b ∷ l) h e =
    let d = fst_true (is_digit b) (all is_digit l) e in
    more_digits (10 * m + (b - 48)) l (omega arith) (snd_true (is_digit b) (all is_digit l) e)
    ∙ ap (λ (s : List ℕ). s ++ l) (last_digit_law m b h d) ∙ append_assoc (decimal m) (b ∷ []) l

value_below : (m k : ℕ) (l : List ℕ) → m < tens k → all is_digit l ≡ true → value m l < tens (k + length l)
unfolding value
value_below m k [] h e =
    let z : k + 0 ≡ k = omega arith in
    rw z h
value_below m k (b ∷ l) h e =
    let r = digit_range b (fst_true (is_digit b) (all is_digit l) e) in
    let z : k + suc (length l) ≡ suc k + length l = omega arith in
    rw z (value_below (10 * m + (b - 48)) (suc k) l (omega arith) (snd_true (is_digit b) (all is_digit l) e))

one_digit : (b : ℕ) → is_digit b ≡ true → decimal (10 * 0 + (b - 48)) ≡ b ∷ []
one_digit b e =
    let r = digit_range b e in
    let w : 48 + (10 * 0 + (b - 48)) ≡ b = omega arith in
    decimal_one (10 * 0 + (b - 48)) (omega arith) ∙ ap (λ (c : ℕ). c ∷ []) w

-- a leading zero stands alone
zero_alone : (b : ℕ) (l : List ℕ) → b ≡ 48 → (eqb (suc (length l)) 1 || not (eqb b 48)) ≡ true → l ≡ []
zero_alone b l z e =
    let t : eqb b 48 ≡ true = eq-eqb b 48 z in
    by_bool (eqb (suc (length l)) 1)
    (λ u. empty l (omega (arith, eqb-true (suc (length l)) 1 u)))
    (λ u. clash (sym (rw (u, t) at e)))

-- no leading zero, or one digit
decimal_back : (l : List ℕ) → is_decimal l ≡ true → all is_digit l ≡ true → (decimal (value 0 l) ≡ l) × (value 0 l < 10000000)
unfolding is_decimal value
decimal_back [] h e = clash (sym h)
decimal_back (b ∷ l) h e =
    let s = fst_true (leb 1 (suc (length l)) && leb (suc (length l)) 7) (eqb (suc (length l)) 1 || not (eqb b 48)) h in
    let t = snd_true (leb 1 (suc (length l)) && leb (suc (length l)) 7) (eqb (suc (length l)) 1 || not (eqb b 48)) h in
    let m = leb-true (suc (length l)) 7 (snd_true (leb 1 (suc (length l))) (leb (suc (length l)) 7) s) in
    let d = fst_true (is_digit b) (all is_digit l) e in
    let r = digit_range b d in
    let f = snd_true (is_digit b) (all is_digit l) e in
    let below : value (10 * 0 + (b - 48)) l < 10000000 =
    omega (arith, value_below (10 * 0 + (b - 48)) 1 l (omega arith) f, tens_rise (1 + length l) 7 (omega arith)) in
    let spelt : decimal (value (10 * 0 + (b - 48)) l) ≡ b ∷ l =
    by_le 49 b
    (λ g. more_digits (10 * 0 + (b - 48)) l (omega arith) f ∙ ap (λ (c : List ℕ). c ++ l) (one_digit b d))
    (λ g.
    let z = zero_alone b l (omega arith) t in
    ap (λ (c : List ℕ). decimal (value (10 * 0 + (b - 48)) c)) z ∙ one_digit b d ∙ ap (◌∷◌ b) (sym z)) in
    (spelt, below)

-- ---- a good line is the line that is written of its key and number

digits_split : (l : List ℕ) → (digits l ++ after_digits l ≡ l) × (all is_digit (digits l) ≡ true)
unfolding digits after_digits
digits_split [] = (refl, refl)
digits_split (b ∷ l) =
    let r = digits_split l in
    by_bool (is_digit b) (λ e. (rw e (ap (◌∷◌ b) r.0), rw e (rw e r.1))) (λ e. (rw e, rw e))

number_back : (l : List ℕ) → is_number l ≡ true → (decimal (value 0 (digits l)) ++ (lf ∷ []) ≡ l) × (value 0 (digits l) < 10000000)
unfolding is_number
number_back l e =
    let d = fst_true (is_decimal (digits l)) (same (after_digits l) (lf ∷ [])) e in
    let s = snd_true (is_decimal (digits l)) (same (after_digits l) (lf ∷ [])) e in
    let r = digits_split l in
    let b = decimal_back (digits l) d r.1 in
    (ap₂ ◌++◌ b.0 (sym (same_true (after_digits l) (lf ∷ []) s)) ∙ r.0, b.1)

word_back : (w l : List ℕ) → begins_with w l ≡ true → w ++ drop (length w) l ≡ l
unfolding begins_with
word_back [] l e = refl
word_back (a ∷ w) [] e = clash (sym e)
word_back (a ∷ w) (b ∷ l) e =
    ap₂ ◌∷◌ (eqb-true a b (fst_true (eqb a b) (begins_with w l) e)) (word_back w l (snd_true (eqb a b) (begins_with w l) e))

read_back : (ks : List Key) (a : List ℕ) (k : Key) (n : ℕ) → read ks a ≡ says k n
    → Memᴰ k ks × (n < 10000000) × (written_line (k, n) ≡ a)
unfolding read numbered written_line line_of
read_back [] a k n e = mute k n e
read_back (j ∷ ks) a k n e =
    by_bool (begins_with (word j) a)
    (λ t.
    by_bool (is_number (drop (length (word j)) a))
    (λ u.
    let rest = drop (length (word j)) a in
    let s : says j (value 0 (digits rest)) ≡ says k n = rw (t, u) at e in
    let y : j ≡ k = cc in
    let z : value 0 (digits rest) ≡ n = cc in
    let b = number_back rest u in
    let w : word j ++ (decimal (value 0 (digits rest)) ++ (lf ∷ [])) ≡ a = ap (λ (c : List ℕ). word j ++ c) b.0 ∙ word_back (word j) a t in
    (Memᴰ.head (sym y), omega (arith, b.1, z), ap₂ (λ (i : Key) (v : ℕ). word i ++ (decimal v ++ (lf ∷ []))) (sym y) (sym z) ∙ w))
    (λ u. mute k n (rw (t, u) at e)))
    (λ t.
    let r = read_back ks a k n (rw t at e) in
    (Memᴰ.tail r.0, r.1, r.2))

-- ---- and a good text is written so

-- the bytes of some lines
unfoldable joined : List (List ℕ) → List ℕ
joined l = each (λ (a : List ℕ). a) l

-- what some lines are, behind one of key k
abbrev WrittenAs : Key → List (List ℕ) → Type 0
WrittenAs k l = (ps : List Entry) × Ordered k ps × (written ps ≡ joined l)

ends_only : (k : Key) (i : ℕ) → judge (not (may_end k)) (Text i) pass ≡ pass → may_end k ≡ true
ends_only k i e = by_bool (may_end k) (λ t. t) (λ t. never (Text i) (rw t at e))

heard_written : (k : Key) (i : ℕ) (a : List ℕ) (l : List (List ℕ)) (r : Line) (behind : Key → Told) → read (follow k) a ≡ r
    → ((j : Key) → (behind j).verdict ≡ pass → WrittenAs j l) → (heard i r behind).verdict ≡ pass → WrittenAs k (a ∷ l)
unfolding written joined
heard_written k i a l bad behind e h v = never (Text i) v
heard_written k i a l (says j n) behind e h v =
    let w = h j v in
    let b = read_back (follow k) a j n e in
    ((j, n) ∷ w.0, goes b.0 b.1 w.1, ap₂ ◌++◌ b.2 w.2)

tells_written : (k : Key) (i : ℕ) (l : List (List ℕ)) → (tells k i l).verdict ≡ pass → WrittenAs k l
unfolding tells written joined
tells_written k i [] e = ([], ends (ends_only k i e), refl)
tells_written k i (a ∷ l) e =
    heard_written k i a l (read (follow k) a) (λ (next : Key). tells next (suc i) l) refl (λ j v. tells_written j (suc i) l v) e

onto_joined : (b : ℕ) (l : List (List ℕ)) → joined (onto b l) ≡ b ∷ joined l
unfolding joined
onto_joined b [] = refl
onto_joined b (a ∷ l) = refl

lines_joined : (l : List ℕ) → joined (lines l) ≡ l
unfolding lines joined
lines_joined [] = refl
lines_joined (b ∷ l) =
    by_bool (eqb b lf) (λ e. rw e (ap (◌∷◌ b) (lines_joined l))) (λ e. rw e (onto_joined b (lines l) ∙ ap (◌∷◌ b) (lines_joined l)))

lines_written : (i : ℕ) (bytes : List ℕ) → (tells Start i (lines bytes)).verdict ≡ pass
    → (ps : List Entry) × Ordered Start ps × (written ps ≡ bytes) × (tells Start i (lines bytes) ≡ told_by ps)
lines_written i bytes e =
    let w = tells_written Start i (lines bytes) e in
    let s : written w.0 ≡ bytes = w.2 ∙ lines_joined bytes in
    (w.0, w.1, s, sym (ap (λ (l : List ℕ). tells Start i (lines l)) s) ∙ written_told w.1 i)

-- a good text is its lines written in the order of the paper, and it says their numbers
pub good_written : (bytes : List ℕ) → (judged bytes).verdict ≡ pass
    → (ps : List Entry) × Ordered Start ps × (written ps ≡ bytes) × (judged bytes ≡ told_by ps)
unfolding judged
good_written bytes e =
    by_bool (ltb most_bytes (length bytes))
    (λ t. never (Text 0) (rw t at e))
    (λ t.
    let w = lines_written _ bytes (rw t at e) in
    (w.0, w.1, w.2, rw t w.3))

-- and every such text of at most 65,536 bytes is good
pub written_good : (ps : List Entry) → Ordered Start ps → length (written ps) ≤ most_bytes → judged (written ps) ≡ told_by ps
unfolding judged
written_good ps o h = rw (le-ltb most_bytes (length (written ps)) h) (written_told o _)
