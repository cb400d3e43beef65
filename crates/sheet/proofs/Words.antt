-- Keys, words and lines at a place, step by step. Assumes nothing.
use mathlib.Core.Path.{◌≡◌, refl, sym, ap, ◌∙◌}
use mathlib.Core.Bool.{Bool, true, false, ◌&&◌}
use mathlib.Core.List.{List, [], ◌∷◌}
use Prim.Native.Nat.{ℕ, ◌+◌, ◌≤◌, ◌<◌}
use native.Mathlib.Numerals.{add-one}
use native.Mathlib.Omega.{arith}
use lib.Dec.{eqb, leb}
use lib.ListN.{length, get_or, drop, get_or-eq_default, drop_of_length-le, length-drop}
use lib.Seq.{drop-cons}
use borrow.Author.Tests.{eq-eqb, ne_eqb, leb-true}
use Rattle.std.specs.List.{starts_with}
use Rattle.std.specs.Prelude.{Option, Some, None, map}
use Rattle.laws.specs.Lists.{all}
use Rattle.laws.proofs.Tests.{by_bool, fst_true, snd_true}
use Rattle.rules.proofs.Counted.{wordy, word_fits}
use Rattle.rules.specs.Text as text
use Rattle.rules.specs.Text.{lf, word, begins_with}
use Rattle.sheet.specs.Places.{key_of, coded, decimal_at, ended, numbered_at, read_at}
use Rattle.sheet.specs.declared.decimals.Decimal.{Decimal}
use Rattle.sheet.specs.declared.lines.Key.{Key}
use Rattle.sheet.specs.declared.lines.Key.TheVariants as key
use Rattle.sheet.specs.declared.lines.Line.{Line}

-- ---- keys

pub coded_key : (k : Key) → coded (key_of k) ≡ k
unfolding coded key_of
coded_key key.Start = refl
coded_key key.Tiles = refl
coded_key key.Side = refl
coded_key key.Xlo = refl
coded_key key.Ylo = refl
coded_key key.Xhi = refl
coded_key key.Yhi = refl
coded_key key.X = refl
coded_key key.Y = refl
coded_key key.R = refl

pub key_coded : (k : text.Key) → key_of (coded k) ≡ k
unfolding coded key_of
key_coded text.Start = refl
key_coded text.Tiles = refl
key_coded text.Side = refl
key_coded text.Xlo = refl
key_coded text.Ylo = refl
key_coded text.Xhi = refl
key_coded text.Yhi = refl
key_coded text.X = refl
key_coded text.Y = refl
key_coded text.R = refl

-- ---- a word

-- the library's test of a prefix, byte by byte
pub begins_so : (w l : List ℕ) → starts_with eqb l w ≡ begins_with w l
unfolding begins_with
begins_so [] l = refl
begins_so (a ∷ w) [] = refl
begins_so (a ∷ w) (b ∷ l) = ap (λ (t : Bool). eqb a b && t) (begins_so w l)

-- ---- the line at a place, under one of some keys

-- behind the text's end there is none
pub read_past : (ks : List text.Key) (l : List ℕ) (at : ℕ) → all wordy ks ≡ true → length l ≤ at → ◌≡◌ {A = Option Line} None (read_at ks l at)
unfolding read_at wordy
read_past [] l at w h = refl
read_past (k ∷ ks) l at w h =
    by_bool (begins_with (word k) (drop at l))
    (λ t. absurd (omega (arith, word_fits (word k) (drop at l) t, length-drop at l, leb-true 2 (length (word k)) (fst_true (leb 2 (length (word k))) (all wordy ks) w))))
    (λ t. rw t (read_past ks l at (snd_true (wordy k) (all wordy ks) w) h))

-- the key that is tried
abbrev pub here : List Key → ℕ → Key → text.Key
here ks i d = key_of (get_or ks i d)

module _ (ks : List Key) (i : ℕ) (d : Key) (h : i < length ks) (l : List ℕ) (at : ℕ) where
  pub this_key : begins_with (word (here ks i d)) (drop at l) ≡ true
      → numbered_at (here ks i d) l (at + length (word (here ks i d))) ≡ read_at (map key_of (drop i ks)) l at
  unfolding read_at
  this_key e = rw (drop-cons ks i d h, e)

  pub other_key : begins_with (word (here ks i d)) (drop at l) ≡ false
      → read_at (map key_of (drop (i + 1) ks)) l at ≡ read_at (map key_of (drop i ks)) l at
  unfolding read_at
  other_key e = rw (drop-cons ks i d h, e, add-one)

pub no_key : (ks : List Key) (i : ℕ) (l : List ℕ) (at : ℕ) → length ks ≤ i → ◌≡◌ {A = Option Line} None (read_at (map key_of (drop i ks)) l at)
unfolding read_at
no_key ks i l at h = rw (drop_of_length-le ks h)

-- ---- a line's number and its LF

module _ (k : Key) (l : List ℕ) (at : ℕ) (r : Option Decimal) (is : r ≡ decimal_at l at) where
  pub line_numberless : r ≡ None → ◌≡◌ {A = Option Line} None (numbered_at (key_of k) l at)
  unfolding numbered_at
  line_numberless e = ap (ended (key_of k) l) (sym e ∙ is)

  module _ (d : Decimal) (e : r ≡ Some d) where
    pub line_goes_on : (get_or l d.end 0 ≡ lf → ⊥) → ◌≡◌ {A = Option Line} None (numbered_at (key_of k) l at)
    unfolding numbered_at
    line_goes_on h = rw (← is, e, ne_eqb (get_or l d.end 0) lf h)

    pub line_endless : length l ≤ d.end → ◌≡◌ {A = Option Line} None (numbered_at (key_of k) l at)
    line_endless h = line_goes_on (λ f. absurd (omega (arith, get_or-eq_default l 0 h, f)))

    pub line_ends : get_or l d.end 0 ≡ lf
        → ◌≡◌ {A = Option Line} (Some (record { key = k; number = d.number; behind = d.end + 1 })) (numbered_at (key_of k) l at)
    unfolding numbered_at
    line_ends h = rw (← is, e, eq-eqb (get_or l d.end 0) lf h, coded_key k)

-- what a line under one key takes
pub ruleset a_line = (line_numberless, line_goes_on, line_endless, line_ends)
