-- The first line of a text, and what is read at its place: the same as the definition reads from the line itself. Assumes nothing.
use mathlib.Core.Path.{◌≡◌, refl, sym, ap, ◌∙◌}
use mathlib.Core.Bool.{Bool, true, false, ◌&&◌, cond}
use mathlib.Core.List.{List, [], ◌∷◌}
use Prim.Native.Nat.{ℕ, suc}
use lib.Dec.{eqb}
use lib.ListN.{length, get_or, drop}
use borrow.Author.Tests.{eqb-true, eqb-false, ne_eqb}
use Rattle.laws.specs.Lists.{same}
use Rattle.laws.proofs.Tests.{by_bool, fst_true, snd_true, clash}
use Rattle.rules.specs.Text.{lf, onto, lines, is_digit, digits, after_digits, begins_with}
use Rattle.rules.proofs.Decimals.{digit_not_lf}
use Rattle.rules.proofs.Written.{one_line, not_lf}

-- ---- the first line, and what comes behind it

unfoldable pub first_line : List ℕ → List ℕ
first_line [] = []
first_line (b ∷ l) = cond (eqb b lf) (b ∷ []) (b ∷ first_line l)

unfoldable pub behind_line : List ℕ → List ℕ
behind_line [] = []
behind_line (b ∷ l) = cond (eqb b lf) l (behind_line l)

pub lines_first : (b : ℕ) (l : List ℕ) → lines (b ∷ l) ≡ first_line (b ∷ l) ∷ lines (behind_line (b ∷ l))
unfolding lines first_line behind_line
lines_first b [] = by_bool (eqb b lf) (λ e. rw e) (λ e. rw e)
lines_first b (c ∷ l) = by_bool (eqb b lf) (λ e. rw e) (λ e. rw e (ap (onto b) (lines_first c l)))

-- ---- a word without LF

-- a byte that is not LF stays in the first line
first_line_other : (b : ℕ) (l : List ℕ) → eqb b lf ≡ false → first_line (b ∷ l) ≡ b ∷ first_line l
unfolding first_line
first_line_other b l e = rw e

behind_line_other : (b : ℕ) (l : List ℕ) → eqb b lf ≡ false → behind_line (b ∷ l) ≡ behind_line l
unfolding behind_line
behind_line_other b l e = rw e

-- a word without LF begins the text where it begins the first line
pub word_first : (w l : List ℕ) → one_line w ≡ true → begins_with w (first_line l) ≡ begins_with w l
unfolding begins_with first_line
word_first [] l h = refl
word_first (a ∷ w) [] h = refl
word_first (a ∷ w) (b ∷ l) h =
    let n = not_lf a w h in
    by_bool (eqb b lf)
    (λ e. rw (e, ne_eqb a b (λ z. eqb-false a lf n.0 (z ∙ eqb-true b lf e))))
    (λ e. rw e (ap (λ (t : Bool). eqb a b && t) (word_first w l n.1)))

-- behind such a word the line goes on as the text does
pub word_behind : (w l : List ℕ) → one_line w ≡ true → begins_with w l ≡ true
    → (drop (length w) (first_line l) ≡ first_line (drop (length w) l)) × (behind_line l ≡ behind_line (drop (length w) l))
unfolding begins_with
word_behind [] l h e = (refl, refl)
word_behind (a ∷ w) [] h e = clash (sym e)
word_behind (a ∷ w) (b ∷ l) h e =
    let n = not_lf a w h in
    let z : a ≡ b = eqb-true a b (fst_true (eqb a b) (begins_with w l) e) in
    let m : eqb b lf ≡ false = sym (ap (λ (c : ℕ). eqb c lf) z) ∙ n.0 in
    let r = word_behind w l n.1 (snd_true (eqb a b) (begins_with w l) e) in
    (ap (drop (suc (length w))) (first_line_other b l m) ∙ r.0, behind_line_other b l m ∙ r.1)

-- ---- digits

pub digits_first : (l : List ℕ) → digits (first_line l) ≡ digits l
unfolding digits first_line
digits_first [] = refl
digits_first (b ∷ l) =
    by_bool (is_digit b)
    (λ e. rw (digit_not_lf b e, e, digits_first l))
    (λ e. by_bool (eqb b lf) (λ f. rw (f, e)) (λ f. rw (f, e)))

pub after_digits_first : (l : List ℕ) → after_digits (first_line l) ≡ first_line (after_digits l)
unfolding after_digits first_line
after_digits_first [] = refl
after_digits_first (b ∷ l) =
    by_bool (is_digit b)
    (λ e. rw (digit_not_lf b e, e, after_digits_first l))
    (λ e. by_bool (eqb b lf) (λ f. rw (f, e) (rw f)) (λ f. rw (f, e) (rw f)))

pub behind_line_digits : (l : List ℕ) → behind_line l ≡ behind_line (after_digits l)
unfolding after_digits behind_line
behind_line_digits [] = refl
behind_line_digits (b ∷ l) = by_bool (is_digit b) (λ e. rw (digit_not_lf b e, e) (behind_line_digits l)) (λ e. rw e)

pub after_digits_drop : (l : List ℕ) → after_digits l ≡ drop (length (digits l)) l
unfolding after_digits digits
after_digits_drop [] = refl
after_digits_drop (b ∷ l) = by_bool (is_digit b) (λ e. rw e (after_digits_drop l)) (λ e. rw e)

-- ---- LF

pub lf_first : (l : List ℕ) → same (first_line l) (lf ∷ []) ≡ eqb (get_or l 0 0) lf
unfolding first_line
lf_first [] = refl
lf_first (b ∷ l) = by_bool (eqb b lf) (λ e. rw e (rw e)) (λ e. rw e (rw e))

pub behind_line_lf : (l : List ℕ) → eqb (get_or l 0 0) lf ≡ true → behind_line l ≡ drop 1 l
unfolding behind_line
behind_line_lf [] e = clash (sym e)
behind_line_lf (b ∷ l) e = rw e
