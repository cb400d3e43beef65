-- `grid::near::last_column` meets its contract. Assumes nothing.
use Rattle.std.proofs.Common.{rules}
use Rattle.rules.specs.Box.{last_column}
use Rattle.grid.proofs.near.last_column.Goals as goal

pub returns : goal.returns
unfolding last_column
returns c = search rules
