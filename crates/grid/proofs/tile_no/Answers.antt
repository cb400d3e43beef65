-- `grid::tile_no` meets its contract: on the grid a tile's number is below n×n, and that is at most 4,096. Assumes nothing.
use Rattle.std.proofs.Common.{refl, arith}
use Rattle.rules.specs.Sizes.{tile_no, tile_count}
use Rattle.grid.proofs.Bounds.{on_grid}
use Rattle.grid.proofs.tile_no.Goals as goal

pub returns : goal.returns
unfolding tile_no tile_count
returns c =
    let k = on_grid c.args.g c.args.row c.args.col c.requires in
    (refl, k.0, omega arith)
