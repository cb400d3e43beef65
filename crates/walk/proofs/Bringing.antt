-- Rows brought one after the other: what stands, with the rows that are left brought to it, is the whole. Assumes nothing.
use mathlib.Core.Path.{◌≡◌, refl, sym, ap, ◌∙◌}
use mathlib.Core.List.{List, [], ◌∷◌, ◌++◌}
use Prim.Native.Nat.{ℕ}
use Rattle.rules.specs.declared.Three.{Three}
use Rattle.walk.specs.Fill.{Got, lost, add_to, add_all, stands, Safe, Held}
use Rattle.walk.specs.declared.batch.Fill.{Fill}

pub add_all_append : (g : Got) (l m : List Three) → add_all g (l ++ m) ≡ add_all (add_all g l) m
unfolding add_all
add_all_append g [] m = refl
add_all_append g (t ∷ l) m = add_all_append (add_to g t) l m

pub add_all_lost : (new : List Three) → add_all lost new ≡ lost
unfolding add_all
add_all_lost [] = refl
add_all_lost (t ∷ new) = add_all_lost new

pub record Bringing (g₀ : Got) (whole left : List Three) (front batch : List ℕ) (f : Fill) : Type 0 where
  pub safe : Safe front batch f
  pub is : add_all (stands front batch f) left ≡ add_all g₀ whole

-- none is brought yet
pub bring_all : (front batch : List ℕ) (f : Fill) (whole left : List Three) → left ≡ whole → Safe front batch f
    → Bringing (stands front batch f) whole left front batch f
bring_all front batch f whole left e s = record { safe = s; is = ap (add_all (stands front batch f)) e }

module _ {g₀ : Got} {whole left : List Three} {front batch : List ℕ} {f : Fill} (p : Bringing g₀ whole left front batch f) where
  -- one is
  pub bring_one : (t : Three) (more : List Three) → left ≡ t ∷ more → {front' batch' : List ℕ} {f' : Fill} → Held front' batch' f' (add_to (stands front batch f) t)
      → Bringing g₀ whole more front' batch' f'
  unfolding add_all
  bring_one t more e q = record {
    safe = q.safe;
    is = ap (λ (g : Got). add_all g more) q.is ∙ ap (add_all (stands front batch f)) (sym e) ∙ p.is;
  }

  -- it finds no room
  pub bring_lost : (t : Three) (more : List Three) → left ≡ t ∷ more → lost ≡ add_to (stands front batch f) t → lost ≡ add_all g₀ whole
  unfolding add_all
  bring_lost t more e h =
      sym (add_all_lost more) ∙ ap (λ (g : Got). add_all g more) h ∙ ap (add_all (stands front batch f)) (sym e) ∙ p.is

  -- some are
  pub bring_some : (new more : List Three) → left ≡ new ++ more → {front' batch' : List ℕ} {f' : Fill} → Held front' batch' f' (add_all (stands front batch f) new)
      → Bringing g₀ whole more front' batch' f'
  bring_some new more e q = record {
    safe = q.safe;
    is = ap (λ (g : Got). add_all g more) q.is ∙ sym (add_all_append (stands front batch f) new more)
        ∙ ap (add_all (stands front batch f)) (sym e) ∙ p.is;
  }

  -- they find no room
  pub some_lost : (new more : List Three) → left ≡ new ++ more → lost ≡ add_all (stands front batch f) new → lost ≡ add_all g₀ whole
  some_lost new more e h =
      sym (add_all_lost more) ∙ ap (λ (g : Got). add_all g more) h ∙ sym (add_all_append (stands front batch f) new more)
      ∙ ap (add_all (stands front batch f)) (sym e) ∙ p.is

  -- all are
  pub bring_none : left ≡ [] → Held front batch f (add_all g₀ whole)
  unfolding add_all
  bring_none e = record { safe = p.safe; is = ap (add_all (stands front batch f)) (sym e) ∙ p.is }
