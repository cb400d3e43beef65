-- `grid::gap` meets its contract. Assumes nothing.
use Rattle.std.proofs.Common.{rules}
use Rattle.rules.specs.Span.{gap}
use Rattle.grid.proofs.gap.Goals as goal

pub returns : goal.returns
unfolding gap
returns c = search rules
