-- Bytes, words, decimals, lines and the texts of many put on a page, one behind the other. Assumes nothing.
use mathlib.Core.Path.{◌≡◌, refl, sym, ap, ◌∙◌}
use mathlib.Core.List.{List, [], ◌∷◌, ◌++◌, append-nil}
use Prim.Native.Nat.{ℕ, ◌+◌, ◌/◌, ◌%◌, ◌≤◌, ◌<◌}
use native.Mathlib.Numerals.{add-one}
use lib.ListN.{length, get_or, take}
use lib.Seq.{take-suc, take_all}
use Rattle.laws.proofs.Lists.{each_append}
use Rattle.laws.specs.Lists.{each}
use Rattle.rules.proofs.Decimals.{decimal_one, decimal_more}
use Rattle.rules.specs.Text.{lf, decimal, line_of, hit_text, no_word, square_word, refused_word, line_word, refusal_text}
use Rattle.rules.specs.Refusals.{paper}
use Rattle.rules.specs.declared.Refusal.{Refusal}
use Rattle.rules.specs.declared.Refusal.TheVariants.{Sizes, Lengths, Footprint, Place, Radius, Damage, Room, Text}
use Rattle.sheet.specs.Put.{puts, output_of, Puts}
use Rattle.sheet.specs.declared.print.Page.{Page}
use Rattle.sheet.proofs.Puts.{puts_append, puts_within}

-- ---- two steps, one behind the other

pub nothing_put : (p : Page) → Puts p [] p
unfolding puts
nothing_put p = record { same = refl; text = refl }

pub both_put : (l m : List ℕ) (p q r : Page) → Puts p l q → Puts q m r → Puts p (l ++ m) r
both_put l m p q r e f = record {
  same = f.same ∙ e.same;
  text = f.text ∙ ap (puts m) e.text ∙ sym (puts_append l m (output_of p));
}

-- ---- a word, byte by byte

pub word_step : (w : List ℕ) (i b : ℕ) (p q r : Page) → i < length w → b ≡ get_or w i 0 → Puts p (take i w) q → Puts q (b ∷ []) r → Puts p (take (i + 1) w) r
word_step w i b p q r h e f g = rw (add-one, take-suc w i 0 h, ← e) (both_put _ _ p q r f g)

pub word_end : (w : List ℕ) (i : ℕ) (p q : Page) → length w ≤ i → Puts p (take i w) q → Puts p w q
word_end w i p q h f = rw (take_all i w h) at f

-- ---- a decimal, digit by digit

pub put_digit : (n : ℕ) (p q : Page) → n < 10 → Puts p ((48 + n) ∷ []) q → Puts p (decimal n) q
put_digit n p q h e = rw (decimal_one n h) e

pub put_last : (n : ℕ) (p q r : Page) → 10 ≤ n → Puts p (decimal (n / 10)) q → Puts q ((48 + n % 10) ∷ []) r → Puts p (decimal n) r
put_last n p q r h e f = rw (decimal_more n h) (both_put _ _ p q r e f)

-- ---- lines

pub put_ending : (w : List ℕ) (n : ℕ) (p q r s : Page) → Puts p w q → Puts q (decimal n) r → Puts r (lf ∷ []) s → Puts p (line_of w n) s
unfolding line_of
put_ending w n p q r s d e f = both_put w (decimal n ++ (lf ∷ [])) p q s d (both_put (decimal n) (lf ∷ []) q r s e f)

pub put_pair : (i s : ℕ) (p q r : Page) → Puts p (line_of no_word i) q → Puts q (line_of square_word s) r → Puts p (hit_text i s) r
unfolding hit_text
put_pair i s p q r e f = both_put (line_of no_word i) (line_of square_word s) p q r e f

-- a refusal has its number alone, but of a bad text
pub put_refused : (r : Refusal) (k : ℕ) (p q : Page) → ((line : ℕ) → r ≡ Text line → ⊥) → k ≡ (paper r).number → Puts p (line_of refused_word k) q
    → Puts p (refusal_text (paper r)) q
unfolding refusal_text paper
put_refused Sizes k p q n e f = rw append-nil (rw e at f)
put_refused Lengths k p q n e f = rw append-nil (rw e at f)
put_refused (Footprint i) k p q n e f = rw append-nil (rw e at f)
put_refused Place k p q n e f = rw append-nil (rw e at f)
put_refused Radius k p q n e f = rw append-nil (rw e at f)
put_refused Damage k p q n e f = rw append-nil (rw e at f)
put_refused (Room need) k p q n e f = rw append-nil (rw e at f)
put_refused (Text line) k p q n e f = absurd (n line refl)

pub put_refused_line : (r : Refusal) (line k v : ℕ) (p q s : Page) → r ≡ Text line → k ≡ (paper r).number → v ≡ line
    → Puts p (line_of refused_word k) q → Puts q (line_of line_word v) s → Puts p (refusal_text (paper r)) s
unfolding refusal_text paper
put_refused_line r line k v p q s e z y f h =
    rw e (both_put (line_of refused_word 8) (line_of line_word line) p q s (rw (z, e) at f) (rw y at h))

-- ---- the texts of many, one behind the other

pub each_step : (f : ℕ → List ℕ) (l : List ℕ) (i : ℕ) (p q r : Page) → i < length l → Puts p (each f (take i l)) q → Puts q (f (get_or l i 0)) r
    → Puts p (each f (take (i + 1) l)) r
each_step f l i p q r h e g =
    rw (add-one, take-suc l i 0 h, each_append f (take i l) (get_or l i 0 ∷ []), append-nil) (both_put _ _ p q r e g)

pub each_end : (f : ℕ → List ℕ) (l : List ℕ) (i : ℕ) (p q : Page) → length l ≤ i → Puts p (each f (take i l)) q → Puts p (each f l) q
each_end f l i p q h e = rw (take_all i l h) at e

-- ---- a page's place is within its output

pub page_within : (p q : Page) (l out : List ℕ) → p.at ≤ length p.out.now → Puts p l q → out ≡ q.out.now → q.at ≤ length out
page_within p q l out h e f = rw f (rw (← e.text) at (puts_within l (output_of p) h))
