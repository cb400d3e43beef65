-- How much a text says: two sizes and four numbers for each of its footprints, and a number for four bytes at most. Assumes nothing.
use mathlib.Core.Path.{◌≡◌, refl, sym, ap, ◌∙◌}
use mathlib.Core.Bool.{Bool, true, ◌&&◌, not}
use mathlib.Core.List.{List, [], ◌∷◌}
use Prim.Native.Nat.{ℕ, suc, ◌+◌, ◌*◌, ◌≤◌}
use native.Mathlib.Nat.{not-suc-le-zero}
use native.Mathlib.Omega.{arith}
use lib.Dec.{leb, ltb, eqb}
use lib.ListN.{length, drop, length-drop}
use borrow.Author.Tests.{leb-true, ltb-false}
use Rattle.laws.specs.Lists.{all, same, total}
use Rattle.laws.proofs.Tests.{by_bool, fst_true, snd_true, clash}
use Rattle.laws.proofs.Same.{same_true}
use Rattle.rules.specs.Refusals.{pass, refuse, judge}
use Rattle.rules.specs.Text.{Key, Start, Tiles, Side, Xlo, Ylo, Xhi, Yhi, X, Y, R, word, follow, may_end, ends_footprint, Line, bad, says, begins_with, is_digit, is_decimal, is_number, digits, after_digits, value, numbered, read, Told, heard, tells, lf, onto, lines, most_bytes, most_digits, judged}
use Rattle.rules.specs.declared.Refusal.{Refusal}
use Rattle.rules.specs.declared.Refusal.TheVariants.{Text}

-- a refusal is no pass
pub never : {A : Type 0} (r : Refusal) → refuse r ≡ pass → A
never r e = let z : ◌≡◌ {A = ℕ} 0 1 = cc in absurd (not-suc-le-zero {n = 0} (omega arith))

-- a bad line says nothing
pub mute : {A : Type 0} (k : Key) (n : ℕ) → bad ≡ says k n → A
mute k n e = let z : ◌≡◌ {A = ℕ} 0 1 = cc in absurd (not-suc-le-zero {n = 0} (omega arith))

-- ---- the key of a line is one of those that may follow

pub read_key : (p : Key → Bool) (ks : List Key) (a : List ℕ) (k : Key) (n : ℕ) → all p ks ≡ true → read ks a ≡ says k n → p k ≡ true
unfolding read numbered
read_key p [] a k n h e = mute k n e
read_key p (j ∷ ks) a k n h e =
    by_bool (begins_with (word j) a)
    (λ t.
    by_bool (is_number (drop (length (word j)) a))
    (λ u.
    let s : says j (value 0 (digits (drop (length (word j)) a))) ≡ says k n = rw (t, u) at e in
    let z : j ≡ k = cc in
    sym (ap p z) ∙ fst_true (p j) (all p ks) h)
    (λ u. mute k n (rw (t, u) at e)))
    (λ t. read_key p ks a k n (snd_true (p j) (all p ks) h) (rw t at e))

-- ---- numbers still to come, and numbers of a footprint that is not whole

unfoldable pub owed : Key → ℕ
owed Start = 2
owed Tiles = 1
owed Side = 0
owed Xlo = 0
owed Ylo = 0
owed Xhi = 0
owed Yhi = 0
owed X = 0
owed Y = 0
owed R = 0

unfoldable pub begun : Key → ℕ
begun Start = 0
begun Tiles = 0
begun Side = 0
begun Xlo = 1
begun Ylo = 2
begun Xhi = 3
begun Yhi = 0
begun X = 0
begun Y = 0
begun R = 0

-- a line of key j behind one of key k pays for itself
unfoldable pays : Key → Key → Bool
pays k j = leb (4 * ends_footprint j + owed k + begun j) (1 + begun k + owed j)

follow_pays : (k : Key) → all (pays k) (follow k) ≡ true
unfolding follow pays owed begun ends_footprint
follow_pays Start = refl
follow_pays Tiles = refl
follow_pays Side = refl
follow_pays Xlo = refl
follow_pays Ylo = refl
follow_pays Xhi = refl
follow_pays Yhi = refl
follow_pays X = refl
follow_pays Y = refl
follow_pays R = refl

pays_off : (k j : Key) → pays k j ≡ true → 4 * ends_footprint j + owed k + begun j ≤ 1 + begun k + owed j
unfolding pays
pays_off k j e = leb-true _ _ e

-- where a text may end nothing is owed and nothing begun
end_even : (k : Key) (i : ℕ) → judge (not (may_end k)) (Text i) pass ≡ pass → owed k ≤ begun k
unfolding may_end owed begun
end_even Start i e = never (Text i) e
end_even Tiles i e = never (Text i) e
end_even Side i e = omega arith
end_even Xlo i e = omega arith
end_even Ylo i e = omega arith
end_even Xhi i e = omega arith
end_even Yhi i e = omega arith
end_even X i e = omega arith
end_even Y i e = omega arith
end_even R i e = omega arith

-- what lines from line i on tell, behind one of key k, covers what is owed
abbrev Covered : Key → Told → Type 0
Covered k t = 4 * t.footprints + owed k ≤ length t.said + begun k

heard_counted : (k : Key) (i : ℕ) (r : Line) (behind : Key → Told)
    → ((j : Key) (n : ℕ) → r ≡ says j n → pays k j ≡ true)
    → ((j : Key) → (behind j).verdict ≡ pass → Covered j (behind j))
    → (heard i r behind).verdict ≡ pass → Covered k (heard i r behind)
heard_counted k i bad behind p h v = never (Text i) v
heard_counted k i (says j n) behind p h v = omega (arith, h j v, pays_off k j (p j n refl))

tells_counted : (k : Key) (i : ℕ) (l : List (List ℕ)) → (tells k i l).verdict ≡ pass → Covered k (tells k i l)
unfolding tells
tells_counted k i [] e = omega (arith, end_even k i e)
tells_counted k i (a ∷ l) e =
    heard_counted k i (read (follow k) a) (λ (next : Key). tells next (suc i) l)
    (λ j n s. read_key (pays k) (follow k) a j n (follow_pays k) s)
    (λ j v. tells_counted j (suc i) l v)
    e

sizes_counted : (i : ℕ) (l : List (List ℕ)) → (tells Start i l).verdict ≡ pass → 2 + 4 * (tells Start i l).footprints ≤ length (tells Start i l).said
unfolding owed begun
sizes_counted i l e = omega (arith, tells_counted Start i l e)

-- a good text says two sizes and its footprints, whatever questions follow
pub footprints_said : (bytes : List ℕ) → (judged bytes).verdict ≡ pass → 2 + 4 * (judged bytes).footprints ≤ length (judged bytes).said
unfolding judged
footprints_said bytes e =
    by_bool (ltb most_bytes (length bytes))
    (λ t. never (Text 0) (rw t at e))
    (λ t. rw t (sizes_counted _ (lines bytes) (rw t at e)))

-- ---- a good line has four bytes or more

-- a word that stands in some bytes is no longer than they are
pub word_fits : (w l : List ℕ) → begins_with w l ≡ true → length w ≤ length l
unfolding begins_with
word_fits [] l e = omega arith
word_fits (a ∷ w) [] e = clash (sym e)
word_fits (a ∷ w) (b ∷ l) e = omega (arith, word_fits w l (snd_true (eqb a b) (begins_with w l) e))

-- a key's word has two bytes or more
unfoldable pub wordy : Key → Bool
wordy k = leb 2 (length (word k))

pub follow_wordy : (k : Key) → all wordy (follow k) ≡ true
unfolding follow wordy word
follow_wordy Start = refl
follow_wordy Tiles = refl
follow_wordy Side = refl
follow_wordy Xlo = refl
follow_wordy Ylo = refl
follow_wordy Xhi = refl
follow_wordy Yhi = refl
follow_wordy X = refl
follow_wordy Y = refl
follow_wordy R = refl

-- digits and what follows them are all
digits_all : (l : List ℕ) → length (digits l) + length (after_digits l) ≡ length l
unfolding digits after_digits
digits_all [] = omega arith
digits_all (b ∷ l) = by_bool (is_digit b) (λ e. rw e (omega (arith, digits_all l))) (λ e. rw e (omega arith))

number_long : (l : List ℕ) → is_number l ≡ true → 2 ≤ length l
unfolding is_number is_decimal
number_long l e =
    let d = fst_true (is_decimal (digits l)) (same (after_digits l) (lf ∷ [])) e in
    let s = snd_true (is_decimal (digits l)) (same (after_digits l) (lf ∷ [])) e in
    let m = leb-true 1 (length (digits l)) (fst_true (leb 1 (length (digits l))) (leb (length (digits l)) most_digits) (fst_true (leb 1 (length (digits l)) && leb (length (digits l)) most_digits) _ d)) in
    omega (arith, digits_all l, m, ap length (same_true (after_digits l) (lf ∷ []) s))

read_long : (ks : List Key) (a : List ℕ) (k : Key) (n : ℕ) → all wordy ks ≡ true → read ks a ≡ says k n → 4 ≤ length a
unfolding read numbered wordy
read_long [] a k n h e = mute k n e
read_long (j ∷ ks) a k n h e =
    by_bool (begins_with (word j) a)
    (λ t.
    by_bool (is_number (drop (length (word j)) a))
    (λ u.
    let w = leb-true 2 (length (word j)) (fst_true (leb 2 (length (word j))) (all wordy ks) h) in
    omega (arith, w, word_fits (word j) a t, number_long (drop (length (word j)) a) u, length-drop (length (word j)) a))
    (λ u. mute k n (rw (t, u) at e)))
    (λ t. read_long ks a k n (snd_true (wordy j) (all wordy ks) h) (rw t at e))

-- ---- so a text says a number for four bytes at most

heard_short : (i : ℕ) (r : Line) (behind : Key → Told) (a m : ℕ) → ((j : Key) (n : ℕ) → r ≡ says j n → 4 ≤ a)
    → ((j : Key) → 4 * length (behind j).said ≤ m) → 4 * length (heard i r behind).said ≤ a + m
heard_short i bad behind a m p h = omega arith
heard_short i (says j n) behind a m p h = omega (arith, p j n refl, h j)

tells_short : (k : Key) (i : ℕ) (l : List (List ℕ)) → 4 * length (tells k i l).said ≤ total length l
unfolding tells
tells_short k i [] = omega arith
tells_short k i (a ∷ l) =
    heard_short i (read (follow k) a) (λ (next : Key). tells next (suc i) l) (length a) (total length l)
    (λ j n s. read_long (follow k) a j n (follow_wordy k) s)
    (λ j. tells_short j (suc i) l)

onto_total : (b : ℕ) (l : List (List ℕ)) → total length (onto b l) ≡ suc (total length l)
onto_total b [] = omega arith
onto_total b (a ∷ l) = omega arith

lines_total : (l : List ℕ) → total length (lines l) ≡ length l
unfolding lines
lines_total [] = refl
lines_total (b ∷ l) =
    by_bool (eqb b lf) (λ e. rw e (omega (arith, lines_total l))) (λ e. rw e (onto_total b (lines l) ∙ ap suc (lines_total l)))

lines_short : (i : ℕ) (bytes : List ℕ) → length bytes ≤ most_bytes → length (tells Start i (lines bytes)).said ≤ 16384
lines_short i bytes h = omega (arith, tells_short Start i (lines bytes), lines_total bytes)

-- 16,384 numbers are enough for every text
pub numbers_enough : (bytes : List ℕ) → length (judged bytes).said ≤ 16384
unfolding judged
numbers_enough bytes =
    by_bool (ltb most_bytes (length bytes))
    (λ t. rw t (omega arith))
    (λ t. rw t (lines_short _ bytes (ltb-false most_bytes (length bytes) t)))
