-- `grid::place` meets its contract. Assumes nothing.
use Rattle.std.proofs.Common.{rules}
use Rattle.rules.specs.Span.{place}
use Rattle.grid.proofs.place.Goals as goal

pub returns-in-Less : goal.returns-in-Less
unfolding place
returns-in-Less c = search rules

pub returns-in-Equal : goal.returns-in-Equal
unfolding place
returns-in-Equal c = search rules

pub returns-in-Greater : goal.returns-in-Greater
unfolding place
returns-in-Greater c = search rules
