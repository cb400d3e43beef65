-- `grid::bad_point` meets its contract. Assumes nothing.
use Rattle.std.proofs.Common.{rules}
use Rattle.rules.specs.Sizes.{bad_point}
use Rattle.grid.proofs.bad_point.Goals as goal

pub returns-then-off_grid : goal.returns-then-off_grid
unfolding bad_point
returns-then-off_grid c = search rules

pub returns-else-off_grid : goal.returns-else-off_grid
unfolding bad_point
returns-else-off_grid c = search rules
