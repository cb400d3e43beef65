-- `grid::column` meets its contract. Assumes nothing.
use Rattle.std.proofs.Common.{rules}
use Rattle.rules.specs.Sizes.{column}
use Rattle.grid.proofs.column.Goals as goal

pub returns : goal.returns
unfolding column
returns c = search rules
