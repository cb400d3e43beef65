-- `grid::near::point` meets its contract. Assumes nothing.
use mathlib.Core.Path.{refl}
use Rattle.rules.specs.Distance.{point}
use Rattle.grid.proofs.near.point.Goals as goal

pub returns : goal.returns
unfolding point
returns c = refl
