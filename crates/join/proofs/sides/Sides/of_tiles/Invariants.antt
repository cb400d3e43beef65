-- `join::sides::Sides::of_tiles` meets its contract: R's classes one after the other, unless S's tile has no entries. Assumes nothing.
use mathlib.Core.Path.{◌≡◌}
use Rattle.join.specs.Keeping.{state}
use Rattle.join.proofs.Loops.{OverRange}
use Rattle.rules.specs.Join.{class_pairs}
use Rattle.join.proofs.sides.Sides.of_tiles.Given as goal

abbrev pub invariant-loop-a : goal.invariant-loop-a
invariant-loop-a l =
    let s = l.fn.self in
    (l.found.out.ghost_name ≡ l.initial.found.out.ghost_name) × OverRange (class_pairs s.g s.left s.right s.r l.t l.u) 16 (state l.initial.found.pairs l.initial.found.out.now) (state l.found.pairs l.found.out.now) l.a
