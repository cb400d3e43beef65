-- `grid::tile_count` meets its contract. Assumes nothing.
use Rattle.std.proofs.Common.{rules}
use Rattle.rules.specs.Sizes.{tile_count}
use Rattle.grid.proofs.tile_count.Goals as goal

pub returns : goal.returns
unfolding tile_count
returns c = search rules
