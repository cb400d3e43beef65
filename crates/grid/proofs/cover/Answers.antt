-- `grid::cover` meets its contract: on the grid every coordinate is below 1,048,576. Assumes nothing.
use Rattle.std.proofs.Common.{rules}
use Rattle.rules.specs.Span.{cover}
use Rattle.grid.proofs.cover.Goals as goal

pub returns : goal.returns
unfolding cover
returns c = search rules
