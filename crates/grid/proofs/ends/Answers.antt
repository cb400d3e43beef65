-- `grid::ends` meets its contract. Assumes nothing.
use Rattle.std.proofs.Common.{rules}
use Rattle.rules.specs.Span.{cover, ends}
use Rattle.grid.proofs.ends.Goals as goal

pub returns : goal.returns
unfolding ends cover
returns c = search rules
