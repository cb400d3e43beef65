-- `join::tiles::Tiles::of_class` meets its contract: S's classes one after the other, unless R's run is empty. Assumes nothing.
use mathlib.Core.Path.{◌≡◌}
use Rattle.join.specs.Keeping.{state}
use Rattle.join.proofs.Loops.{OverRange}
use Rattle.join.specs.Levels.{marked_pairs}
use Rattle.join.proofs.tiles.Tiles.of_class.Given as goal

abbrev pub invariant-loop-b : goal.invariant-loop-b
invariant-loop-b l =
    let s = l.self.of.now in
    (l.found.out.ghost_name ≡ l.initial.found.out.ghost_name) × OverRange (marked_pairs s.g s.left.reg s.right s.r l.self.t l.self.u l.a l.left.entries.now) 16 (state l.initial.found.pairs l.initial.found.out.now) (state l.found.pairs l.found.out.now) l.b
