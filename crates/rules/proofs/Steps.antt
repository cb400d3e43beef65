-- An ask never runs out of steps: the burden of the waiting rows falls with every step until the machine has halted, and the rules allow
-- at least as many steps; for tables, points and fronts of any origin. Assumes nothing.
use mathlib.Core.Path.{◌≡◌, refl, sym, ap, ◌∙◌}
use mathlib.Core.Bool.{Bool, true, false, cond}
use mathlib.Core.List.{List, [], ◌∷◌}
use Prim.Native.Nat.{ℕ, zero, suc, ◌+◌, ◌-◌, ◌<◌, ◌≤◌}
use native.Mathlib.Omega.{arith}
use lib.Dec.{leb}
use lib.ListN.{length}
use Rattle.laws.specs.Lists.{total, run_for}
use Rattle.laws.proofs.Tests.{clash}
use Rattle.laws.proofs.Totals.{total_rises}
use Rattle.laws.proofs.Machine.{stands_still, goes_on, has_halted, enough}
use Rattle.rules.specs.Tables.{Tables}
use Rattle.rules.specs.Front.{earlier, insert, insert_all}
use Rattle.rules.specs.Walk.{Move, damage, bring, hand, move, Machine, machine, spoiled, halts, halted, after_move, turn, step, weight, finish}
use Rattle.rules.specs.declared.Grid.{Grid}
use Rattle.rules.specs.declared.Point.{Point}
use Rattle.rules.specs.declared.Three.{Three}
use Rattle.rules.proofs.Burden.{burden, burden_positive, burden_weight, lighter}

-- ---- rows inserted weigh what they weigh

module _ (f : Three → ℕ) where
  pub total_insert : (a : Three) (l : List Three) → total f (insert a l) ≡ f a + total f l
  unfolding insert
  total_insert a [] = refl
  total_insert a (b ∷ l) = go (earlier a b) (total_insert a l)
    where
      go : (p : Bool) → total f (insert a l) ≡ f a + total f l → total f (cond p (a ∷ b ∷ l) (b ∷ insert a l)) ≡ f a + (f b + total f l)
      go true e = refl
      go false e = omega arith

  pub total_insert_all : (new l : List Three) → total f (insert_all new l) ≡ total f new + total f l
  total_insert_all [] l = omega arith
  total_insert_all (a ∷ new) l = let e = total_insert_all new (insert a l) in let g = total_insert a l in omega arith

-- ---- a machine that has halted stands still

turn_still : (mv : Three → Move) (whole : ℕ) (b : Bool) (j : ℕ) (w : List Three) (o : List ℕ) → halts b j w ≡ true → turn mv whole b j w o ≡ machine w o j b
turn_still mv whole true j w o e = refl
turn_still mv whole false zero w o e = refl
turn_still mv whole false (suc j) [] o e = refl
turn_still mv whole false (suc j) (a ∷ w) o e = clash (sym e)

pub step_still : (mv : Three → Move) (whole : ℕ) (m : Machine) → halted m ≡ true → step mv whole m ≡ m
unfolding step
step_still mv whole m e = turn_still mv whole m.damaged m.wanted m.waiting m.given e

-- ---- the ask's machine, on a front of so many whole rows

module _ (g : Grid) (t : Tables) (q : Point) (whole : ℕ) where
  -- the burden of all that waits
  abbrev pub left : Machine → ℕ
  left m = total (burden g t) m.waiting

  after_falls : (a : Three) (w : List Three) (o : List ℕ) (j : ℕ) → left (after_move whole (move g t q a) j w o) < burden g t a + total (burden g t) w
  after_falls a w o j = go (move g t q a) (lighter g t q a)
    where
      fitting : (b : Bool) (new : List Three) → total (burden g t) new < burden g t a
          → left (cond b (machine (insert_all new w) o (suc j) false) spoiled) < burden g t a + total (burden g t) w
      fitting true new h = omega (arith, total_insert_all (burden g t) new w)
      fitting false new h = omega (arith, burden_positive g t a)

      go : (m : Move) → ((new : List Three) → m ≡ bring new → total (burden g t) new < burden g t a)
          → left (after_move whole m j w o) < burden g t a + total (burden g t) w
      go damage h = omega (arith, burden_positive g t a)
      go (bring new) h = fitting (leb (length w + length new) whole) new (h new refl)
      go (hand l) h = omega (arith, burden_positive g t a)

  turn_falls : (b : Bool) (j : ℕ) (w : List Three) (o : List ℕ) → halts b j w ≡ false → left (turn (move g t q) whole b j w o) < total (burden g t) w
  turn_falls true j w o e = clash e
  turn_falls false zero w o e = clash e
  turn_falls false (suc j) [] o e = clash e
  turn_falls false (suc j) (a ∷ w) o e = after_falls a w o j

  -- every step takes a burden off
  pub step_falls : (m : Machine) → halted m ≡ false → left (step (move g t q) whole m) < left m
  unfolding step
  step_falls m e = turn_falls m.damaged m.wanted m.waiting m.given e

  allowed_steps : (m : Machine) → left m ≤ total (weight g t) m.waiting
  allowed_steps m = total_rises (burden g t) (weight g t) m.waiting (burden_weight g t)

  -- an ask has halted when its steps are done: running out of steps never happens
  pub finish_halts : (m : Machine) → halted (finish g t q whole m) ≡ true
  unfolding finish
  finish_halts m = has_halted halted (step (move g t q) whole) left step_falls (total (weight g t) m.waiting) m (allowed_steps m)

  -- what is left to do is the same after a step
  pub finish_step : (m : Machine) → halted m ≡ false → finish g t q whole m ≡ finish g t q whole (step (move g t q) whole m)
  unfolding finish
  finish_step m e =
      let next = step (move g t q) whole m in
      let steps = total (weight g t) m.waiting in
      let f = step_falls m e in
      let a = allowed_steps m in
      let b = allowed_steps next in
      let p : steps ≡ suc (steps - 1) = omega arith in
      ap (λ (k : ℕ). run_for halted (step (move g t q) whole) k m) p
      ∙ goes_on halted (step (move g t q) whole) (steps - 1) m e
      ∙ enough halted (step (move g t q) whole) left step_falls (steps - 1) (total (weight g t) next.waiting) next (omega arith) (omega arith)

  pub finish_still : (m : Machine) → halted m ≡ true → finish g t q whole m ≡ m
  unfolding finish
  finish_still m e = stands_still halted (step (move g t q) whole) (total (weight g t) m.waiting) m e
