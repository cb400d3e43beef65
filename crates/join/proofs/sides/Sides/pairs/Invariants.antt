-- `join::sides::Sides::pairs` meets its contract: R's tiles one after the other. Assumes nothing.
use mathlib.Core.Path.{◌≡◌}
use Rattle.join.specs.Keeping.{state}
use Rattle.join.proofs.Loops.{OverRange}
use Rattle.rules.specs.Sizes.{tile_count}
use Rattle.join.specs.Levels.{around_pairs}
use Rattle.join.proofs.sides.Sides.pairs.Given as goal

abbrev pub invariant-loop-t : goal.invariant-loop-t
invariant-loop-t l = (l.found.out.ghost_name ≡ l.initial.found.out.ghost_name) × OverRange (around_pairs l.self.g l.self.left l.self.right l.self.r) (tile_count l.self.g) (state 0 l.initial.found.out.now) (state l.found.pairs l.found.out.now) l.t
