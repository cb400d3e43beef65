-- `grid::off_grid` meets its contract. Assumes nothing.
use Rattle.std.proofs.Common.{rules}
use Rattle.rules.specs.Sizes.{off_grid}
use Rattle.grid.proofs.off_grid.Goals as goal

pub returns : goal.returns
unfolding off_grid
returns c = search rules
