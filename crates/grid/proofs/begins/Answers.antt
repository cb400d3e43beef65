-- `grid::begins` meets its contract. Assumes nothing.
use Rattle.std.proofs.Common.{rules}
use Rattle.rules.specs.Span.{cover, begins}
use Rattle.grid.proofs.begins.Goals as goal

pub returns : goal.returns
unfolding begins cover
returns c = search rules
