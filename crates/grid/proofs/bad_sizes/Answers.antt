-- `grid::bad_sizes` meets its contract. Assumes nothing.
use Rattle.std.proofs.Common.{rules}
use Rattle.rules.specs.Sizes.{bad_sizes}
use Rattle.grid.proofs.bad_sizes.Goals as goal

pub returns-then-not-contains : goal.returns-then-not-contains
unfolding bad_sizes
returns-then-not-contains c = search rules

pub returns-else-not-contains : goal.returns-else-not-contains
unfolding bad_sizes
returns-else-not-contains c = search rules
