-- The nine sets and the marks at every entry of their tables: one test each, which antt computes. Assumes nothing.
use mathlib.Core.Path.{◌≡◌, refl, ◌∙◌}
use mathlib.Core.Bool.{Bool, true, ◌&&◌, cond}
use mathlib.Core.List.{List, [], ◌∷◌, map}
use Prim.Native.Nat.{ℕ, zero, suc, ◌+◌, ◌*◌, ◌/◌, ◌%◌, ◌^◌, ◌<◌}
use native.Mathlib.Omega.{arith}
use lib.Dec.{ltb}
use lib.ListN.{get_or}
use borrow.Author.Tests.{ltb-true}
use Rattle.laws.specs.Lists.{up_to, all}
use Rattle.laws.proofs.Tests.{fst_true, snd_true}
use Rattle.laws.proofs.Computed.{all_below, agree, agreed}
use Rattle.rules.specs.Span.{Place, before, level, after}
use Rattle.rules.specs.Classes.{is_set, allowed, marked}
use Rattle.grid.specs.Places.{place_no, position, is_on}

-- ---- the three places

abbrev pub three_places : List Place
three_places = before ∷ level ∷ after ∷ []

all_places : (p : Place → Bool) → all p three_places ≡ true → (x : Place) → p x ≡ true
all_places p e before = fst_true (p before) _ e
all_places p e level = fst_true (p level) _ (snd_true (p before) _ e)
all_places p e after = fst_true (p after) true (snd_true (p level) _ (snd_true (p before) _ e))

-- ---- a mask made of its bits, so that a table is computed and not copied

unfoldable pub mask_of : ℕ → (ℕ → Bool) → ℕ
mask_of zero p = 0
mask_of (suc k) p = cond (p k) (2 ^ k) 0 + mask_of k p

unfoldable pub table : ℕ → ℕ → (ℕ → ℕ) → List ℕ
table i zero f = []
table i (suc k) f = f i ∷ table (suc i) k f

-- ---- the nine sets

unfoldable pub sets : List (List ℕ)
sets = map (λ (py : Place). map (λ (px : Place). mask_of 16 (allowed px py)) three_places) three_places

abbrev set_right : List (List ℕ) → Place → Place → ℕ → Bool
set_right t py px k = agree (is_on (get_or (get_or t (place_no py) []) (place_no px) 0) k) (allowed px py k)

-- the one test: at each of the nine masks, each class
abbrev sets_right : List (List ℕ) → Bool
sets_right t = all (λ (py : Place). all (λ (px : Place). all (set_right t py px) (up_to 16)) three_places) three_places

sets_hold : sets_right sets ≡ true
unfolding sets mask_of is_on is_set allowed
sets_hold = refl

pub set_rule : (px py : Place) (k : ℕ) → k < 16 → is_on (get_or (get_or sets (place_no py) []) (place_no px) 0) k ≡ allowed px py k
set_rule px py k h =
    agreed _ _
    (all_below (set_right sets py px) 16
    (all_places (λ (x : Place). all (set_right sets py x) (up_to 16))
    (all_places (λ (y : Place). all (λ (x : Place). all (set_right sets y x) (up_to 16)) three_places) sets_hold py) px) k h)

pub set_read : (px py : Place) (x y : ℕ) → x ≡ place_no px → y ≡ place_no py
    → (k : ℕ) → k < 16 → is_on (get_or (get_or sets y []) x 0) k ≡ allowed px py k
set_read px py x y ex ey k h = rw (ex, ey) (set_rule px py k h)

-- ---- the marks

-- the place behind a position's remainder or quotient
abbrev place_at : ℕ → Place
place_at zero = before
place_at (suc zero) = level
place_at (suc (suc k)) = after

unfoldable pub nine : List ℕ
nine = table 0 256 (λ k. mask_of 9 (λ p. marked (place_at (p % 3)) (place_at (p / 3)) (k / 16) (k % 16)))

abbrev mark_right : List ℕ → ℕ → ℕ → Place → Place → Bool
mark_right t a b py px = agree (is_on (get_or t (16 * a + b) 0) (position px py)) (marked px py a b)

abbrev pair_right : List ℕ → ℕ → ℕ → Bool
pair_right t a b = ltb (get_or t (16 * a + b) 0) 512 && all (λ (py : Place). all (mark_right t a b py) three_places) three_places

-- the one test: at each of the 256 pairs, each position
abbrev marks_right : List ℕ → Bool
marks_right t = all (λ (a : ℕ). all (pair_right t a) (up_to 16)) (up_to 16)

marks_hold : marks_right nine ≡ true
unfolding nine table mask_of is_on is_set marked
marks_hold = refl

pair_right_law : (a b : ℕ) → a < 16 → b < 16 → pair_right nine a b ≡ true
pair_right_law a b ha hb = all_below (pair_right nine a) 16 (all_below (λ (a : ℕ). all (pair_right nine a) (up_to 16)) 16 marks_hold a ha) b hb

-- a class's bits are those of its last four
bits_mod : (a : ℕ) (px py : Place) (b : ℕ) → marked px py (a % 16) (b % 16) ≡ marked px py a b
unfolding marked is_set
bits_mod a px py b =
    let a8 : a % 16 / 8 % 2 ≡ a / 8 % 2 = omega arith in
    let a4 : a % 16 / 4 % 2 ≡ a / 4 % 2 = omega arith in
    let a2 : a % 16 / 2 % 2 ≡ a / 2 % 2 = omega arith in
    let a1 : a % 16 / 1 % 2 ≡ a / 1 % 2 = omega arith in
    let b8 : b % 16 / 8 % 2 ≡ b / 8 % 2 = omega arith in
    let b4 : b % 16 / 4 % 2 ≡ b / 4 % 2 = omega arith in
    let b2 : b % 16 / 2 % 2 ≡ b / 2 % 2 = omega arith in
    let b1 : b % 16 / 1 % 2 ≡ b / 1 % 2 = omega arith in
    rw (a8, a4, a2, a1, b8, b4, b2, b1)

pub mark_rule : (a b : ℕ) → (px py : Place) → is_on (get_or nine (16 * (a % 16) + b % 16) 0) (position px py) ≡ marked px py a b
mark_rule a b px py =
    agreed _ _
    (all_places (mark_right nine (a % 16) (b % 16) py)
    (all_places (λ (y : Place). all (mark_right nine (a % 16) (b % 16) y) three_places)
    (snd_true (ltb (get_or nine (16 * (a % 16) + b % 16) 0) 512) _ (pair_right_law (a % 16) (b % 16) (omega arith) (omega arith))) py) px)
    ∙ bits_mod a px py b

pub mark_small : (a b : ℕ) → get_or nine (16 * (a % 16) + b % 16) 0 < 512
mark_small a b = ltb-true _ _ (fst_true (ltb (get_or nine (16 * (a % 16) + b % 16) 0) 512) _ (pair_right_law (a % 16) (b % 16) (omega arith) (omega arith)))
