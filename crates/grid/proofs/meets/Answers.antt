-- `grid::meets` meets its contract. Assumes nothing.
use Rattle.std.proofs.Common.{rules}
use Rattle.rules.specs.Span.{meets}
use Rattle.grid.proofs.meets.Goals as goal

pub returns-then-b-a : goal.returns-then-b-a
unfolding meets
returns-then-b-a c = search rules

pub returns-else-b-a : goal.returns-else-b-a
unfolding meets
returns-else-b-a c = search rules
