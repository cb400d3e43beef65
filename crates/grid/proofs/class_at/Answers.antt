-- `grid::class_at` meets its contract. Assumes nothing.
use Rattle.std.proofs.Common.{rules}
use Rattle.rules.specs.Classes.{class_no}
use Rattle.grid.specs.Tiles.{class_at}
use Rattle.grid.proofs.class_at.Goals as goal

pub returns : goal.returns
unfolding class_at class_no
returns c = search rules
