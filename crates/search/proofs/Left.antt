-- What is still to be read: nothing read yet, a piece read, damage met; and hits kept one after the other. Assumes nothing.
use mathlib.Core.Path.{◌≡◌, refl, sym, ap, ◌∙◌}
use mathlib.Core.Bool.{Bool, true, false, ◌&&◌}
use mathlib.Core.List.{List, [], ◌∷◌, ◌++◌}
use Prim.Native.Nat.{ℕ, suc, ◌+◌, ◌≤◌}
use native.Mathlib.Nat.{add-zero, zero-add}
use native.Mathlib.Omega.{arith}
use lib.ListN.{length, drop, length-append}
use lib.Seq.{sets, sets-eq}
use Rattle.laws.specs.Lists.{each, over}
use Rattle.rules.specs.Search.{hit_writes}
use Rattle.rules.specs.declared.Grid.{Grid}
use Rattle.rules.specs.declared.Point.{Point}
use Rattle.search.specs.Reading.{keep_hit, kept, Left}

-- ---- hits kept one after the other

pub kept_append : (put : ℕ → ℕ → List ℕ → List ℕ) (c : ℕ) (h m lent : List ℕ)
    → kept put c (h ++ m) lent ≡ kept put (c + length h) m (kept put c h lent)
unfolding kept
kept_append put c [] m lent = rw add-zero
kept_append put c (i ∷ h) m lent =
    kept_append put (c + 1) h m (put c i lent)
    ∙ let e : c + 1 + length h ≡ c + suc (length h) = omega arith in ap (λ (n : ℕ). kept put n m (kept put (c + 1) h (put c i lent))) e

module _ (g : Grid) (reg : List ℕ) (q : Point) where
  pub writes_are : (hits : List ℕ) → each (hit_writes g reg q) hits ≡ hits
  unfolding hit_writes
  writes_are [] = refl
  writes_are (i ∷ hits) = ap (λ (l : List ℕ). i ∷ l) (writes_are hits)

  kept_sets : (c : ℕ) (hits lent : List ℕ) → kept (keep_hit g reg q) c hits lent ≡ sets lent c hits
  unfolding kept keep_hit hit_writes
  kept_sets c [] lent = refl
  kept_sets c (i ∷ hits) lent =
      kept_sets (c + 1) hits (sets lent c (i ∷ [])) ∙ let e : c + 1 ≡ suc c = omega arith in ap (λ (n : ℕ). sets (sets lent c (i ∷ [])) n hits) e

  -- where all hits find room, what is kept are their numbers, written over the beginning
  pub kept_fits : (hits lent : List ℕ) → length hits ≤ length lent
      → kept (keep_hit g reg q) 0 hits lent ≡ over (each (hit_writes g reg q) hits) lent
  kept_fits hits lent h =
      kept_sets 0 hits lent ∙ sets-eq hits lent 0 (omega arith)
      ∙ ap (λ (n : ℕ). hits ++ drop n lent) (zero-add (length hits))
      ∙ ap (λ (l : List ℕ). over l lent) (sym (writes_are hits))

-- ---- what is still to be read

module _ {put : ℕ → ℕ → List ℕ → List ℕ} where
  pub left_all : (whole : Bool) (hits : List ℕ) (c : ℕ) (lent : List ℕ) → Left put whole whole hits hits c c lent lent
  left_all whole hits c lent = record { still = refl; counts = refl; keeps = refl }

  -- nothing is read, and what is left is said in other words
  pub left_same : {whole rest : Bool} {hits more : List ℕ} (c : ℕ) (lent : List ℕ) → whole ≡ rest → hits ≡ more
      → Left put whole rest hits more c c lent lent
  left_same c lent e f = record {
    still = e;
    counts = ap (λ (l : List ℕ). c + length l) (sym f);
    keeps = ap (λ (l : List ℕ). kept put c l lent) (sym f);
  }

  pub left_as : {whole a b : Bool} {hits h m : List ℕ} {c₀ c : ℕ} {lent₀ lent : List ℕ}
      → Left put whole a hits h c₀ c lent₀ lent → a ≡ b → h ≡ m → Left put whole b hits m c₀ c lent₀ lent
  left_as {c = c} {lent = lent} p e f = record {
    still = p.still ∙ e;
    counts = ap (λ (l : List ℕ). c + length l) (sym f) ∙ p.counts;
    keeps = ap (λ (l : List ℕ). kept put c l lent) (sym f) ∙ p.keeps;
  }

  -- a piece of the rest is read, and something of it may be held back
  pub left_on : (b : Bool) (m : List ℕ) {whole rest a a' : Bool} {hits more h h' : List ℕ} {c₀ c c' : ℕ} {lent₀ lent lent' : List ℕ}
      → Left put whole rest hits more c₀ c lent₀ lent → rest ≡ (a && b) → more ≡ h ++ m → Left put a a' h h' c c' lent lent'
      → Left put whole (a' && b) hits (h' ++ m) c₀ c' lent₀ lent'
  left_on b m {whole} {rest} {a} {a'} {hits} {more} {h} {h'} {c₀} {c} {c'} {lent₀} {lent} {lent'} p e f s = record {
    still = p.still ∙ e ∙ ap (λ (x : Bool). x && b) s.still;
    counts = omega (arith, p.counts, s.counts, ap length f, length-append h m, length-append h' m);
    keeps = kept_append put c' h' m lent'
        ∙ ap (λ (l : List ℕ). kept put (c' + length h') m l) s.keeps
        ∙ ap (λ (n : ℕ). kept put n m (kept put c h lent)) s.counts
        ∙ sym (kept_append put c h m lent) ∙ ap (λ (l : List ℕ). kept put c l lent) (sym f) ∙ p.keeps;
  }

  -- damage in a piece of the rest is damage
  pub left_bad : (b : Bool) {whole rest a : Bool} {hits more : List ℕ} {c₀ c : ℕ} {lent₀ lent : List ℕ}
      → Left put whole rest hits more c₀ c lent₀ lent → rest ≡ (a && b) → a ≡ false → whole ≡ false
  left_bad b p e f = p.still ∙ e ∙ ap (λ (x : Bool). x && b) f

  -- nothing is left
  pub left_none : {whole rest : Bool} {hits more : List ℕ} {c₀ c : ℕ} {lent₀ lent : List ℕ}
      → Left put whole rest hits more c₀ c lent₀ lent → rest ≡ true → more ≡ [] → Left put whole true hits [] c₀ c lent₀ lent
  left_none p e f = left_as p e f
