-- `grid::near::first_column` meets its contract. Assumes nothing.
use Rattle.std.proofs.Common.{rules}
use Rattle.rules.specs.Box.{first_column}
use Rattle.grid.proofs.near.first_column.Goals as goal

pub returns : goal.returns
unfolding first_column
returns c = search rules
