-- `grid::near::within` meets its contract. Assumes nothing.
use Rattle.std.proofs.Common.{rules}
use Rattle.rules.specs.Distance.{within}
use Rattle.grid.proofs.near.within.Goals as goal

pub returns : goal.returns
unfolding within
returns c = search rules
