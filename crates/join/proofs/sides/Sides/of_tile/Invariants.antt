-- `join::sides::Sides::of_tile` meets its contract: the nine positions one after the other. Assumes nothing.
use mathlib.Core.Path.{◌≡◌}
use Rattle.join.specs.Keeping.{state}
use Rattle.join.proofs.Loops.{OverRange}
use Rattle.join.specs.Levels.{pairs_at}
use Rattle.join.proofs.sides.Sides.of_tile.Given as goal

abbrev pub invariant-loop-p : goal.invariant-loop-p
invariant-loop-p l = (l.found.out.ghost_name ≡ l.initial.found.out.ghost_name) × OverRange (pairs_at l.self.g l.self.left l.self.right l.self.r l.t) 9 (state l.initial.found.pairs l.initial.found.out.now) (state l.found.pairs l.found.out.now) l.p
