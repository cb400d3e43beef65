-- `join::places::tile_at` meets its contract: a tile that is there has its row and its column on the grid. Assumes nothing.
use Rattle.rules.specs.Sizes.{row_of, column_of}
use Rattle.rules.specs.JoinSteps.{tile_at}
use Rattle.join.proofs.Around.{around_below}
use native.Mathlib.Omega.{arith}
use Rattle.join.proofs.places.tile_at.Goals as goal

pub overflow_add-t : goal.overflow_add-t
overflow_add-t c =
    let h = around_below c.args.g c.requires.0 c.args.t c.requires.2 c.args.p c.requires.4 in omega (arith, h.0, h.1, h.2, h.3, c.requires.1)

pub overflow_sub-t : goal.overflow_sub-t
overflow_sub-t c =
    let h = around_below c.args.g c.requires.0 c.args.t c.requires.2 c.args.p c.requires.4 in omega (arith, h.0, h.1, h.2, h.3, c.requires.1)

pub overflow_add-t-2 : goal.overflow_add-t-2
overflow_add-t-2 c =
    let h = around_below c.args.g c.requires.0 c.args.t c.requires.2 c.args.p c.requires.4 in omega (arith, h.0, h.1, h.2, h.3, c.requires.1)

pub overflow_sub-t-2 : goal.overflow_sub-t-2
overflow_sub-t-2 c =
    let h = around_below c.args.g c.requires.0 c.args.t c.requires.2 c.args.p c.requires.4 in omega (arith, h.0, h.1, h.2, h.3, c.requires.1)

pub tile_no-requires : goal.tile_no-requires
tile_no-requires c =
    let h = around_below c.args.g c.requires.0 c.args.t c.requires.2 c.args.p c.requires.4 in (c.requires.1, omega (arith, h.0, h.1), omega (arith, h.2, h.3))

pub returns : goal.returns
unfolding tile_at row_of column_of
returns c = c.tile_no.ensures.0
