-- `join::runs::Runs::of_entry` meets its contract: S's numbers one after the other, unless they are all too far. Assumes nothing.
use mathlib.Core.Path.{◌≡◌}
use Rattle.join.specs.Keeping.{state}
use Rattle.join.proofs.Loops.{OverList}
use Rattle.join.specs.Levels.{one_pair}
use Rattle.join.proofs.runs.Runs.of_entry.Given as goal

abbrev pub invariant-loop-j : goal.invariant-loop-j
invariant-loop-j l =
    let s = l.self in
    (l.found.out.ghost_name ≡ l.initial.found.out.ghost_name) × OverList (one_pair s.g s.left.reg.now s.right.reg.now s.r l.self.left.no l.self.right.no l.i) l.self.right.entries.now (state l.initial.found.pairs l.initial.found.out.now) (state l.found.pairs l.found.out.now) l.j-index
