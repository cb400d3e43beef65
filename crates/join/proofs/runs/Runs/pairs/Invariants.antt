-- `join::runs::Runs::pairs` meets its contract: R's numbers one after the other, unless the runs are too far apart. Assumes nothing.
use mathlib.Core.Path.{◌≡◌}
use Rattle.join.specs.Keeping.{state}
use Rattle.join.proofs.Loops.{OverList}
use Rattle.join.specs.Levels.{entry_pairs}
use Rattle.join.proofs.runs.Runs.pairs.Given as goal

abbrev pub invariant-loop-i : goal.invariant-loop-i
invariant-loop-i l =
    let s = l.self in
    (l.found.out.ghost_name ≡ l.initial.found.out.ghost_name) × OverList (λ i. entry_pairs s.g s.left.reg.now s.right.reg.now s.r l.self.left.no l.self.right.no i l.self.right.entries.now) l.self.left.entries.now (state l.initial.found.pairs l.initial.found.out.now) (state l.found.pairs l.found.out.now) l.i-index
