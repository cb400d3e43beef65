-- The measure of an ask: on an accepted grid the weight of the waiting rows falls with every step. Assumes nothing.
use mathlib.Core.Path.{◌≡◌, refl}
use mathlib.Core.Bool.{Bool, true, false, cond}
use mathlib.Core.List.{List, [], ◌∷◌}
use Prim.Native.Nat.{ℕ, zero, suc, ◌+◌, ◌<◌}
use native.Mathlib.Omega.{arith}
use lib.Dec.{leb}
use lib.ListN.{length}
use Rattle.laws.specs.Lists.{total}
use Rattle.laws.proofs.Tests.{clash}
use Rattle.rules.specs.Tables.{Tables}
use Rattle.rules.specs.Front.{insert_all}
use Rattle.rules.specs.Walk.{Move, damage, bring, hand, move, Machine, machine, spoiled, halts, halted, after_move, turn, step, weight}
use Rattle.rules.specs.declared.Grid.{Grid}
use Rattle.rules.specs.declared.Point.{Point}
use Rattle.rules.specs.declared.Three.{Three}
use Rattle.rules.proofs.Burden.{burden_positive, burden_weight}
use Rattle.rules.proofs.Steps.{total_insert_all}
use Rattle.rules.proofs.Weights.{weight_falls}
use Rattle.walk.specs.Reading.{Placed}

-- the weight of all that waits, which bounds the rules' steps
abbrev pub weighed : Grid → Tables → Machine → ℕ
weighed g t m = total (weight g t) m.waiting

module _ (g : Grid) (t : Tables) (q : Point) (ok : Placed g q) (whole : ℕ) where
  positive : (a : Three) → 0 < weight g t a
  positive a = omega (arith, burden_positive g t a, burden_weight g t a)

  after_falls : (a : Three) (w : List Three) (o : List ℕ) (j : ℕ) → weighed g t (after_move whole (move g t q a) j w o) < weight g t a + total (weight g t) w
  after_falls a w o j = go (move g t q a) (weight_falls g t q ok.sizes ok.point a)
    where
      fitting : (b : Bool) (new : List Three) → total (weight g t) new < weight g t a
          → weighed g t (cond b (machine (insert_all new w) o (suc j) false) spoiled) < weight g t a + total (weight g t) w
      fitting true new h = omega (arith, total_insert_all (weight g t) new w)
      fitting false new h = omega (arith, positive a)

      go : (m : Move) → ((new : List Three) → m ≡ bring new → total (weight g t) new < weight g t a)
          → weighed g t (after_move whole m j w o) < weight g t a + total (weight g t) w
      go damage h = omega (arith, positive a)
      go (bring new) h = fitting (leb (length w + length new) whole) new (h new refl)
      go (hand l) h = omega (arith, positive a)

  turn_falls : (b : Bool) (j : ℕ) (w : List Three) (o : List ℕ) → halts b j w ≡ false → weighed g t (turn (move g t q) whole b j w o) < total (weight g t) w
  turn_falls true j w o e = clash e
  turn_falls false zero w o e = clash e
  turn_falls false (suc j) [] o e = clash e
  turn_falls false (suc j) (a ∷ w) o e = after_falls a w o j

  pub step_falls : (m : Machine) → halted m ≡ false → weighed g t (step (move g t q) whole m) < weighed g t m
  unfolding step
  step_falls m e = turn_falls m.damaged m.wanted m.waiting m.given e
