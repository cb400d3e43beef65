-- `walk::ready::Outward::tile_row` meets its contract. Assumes nothing.
use Rattle.walk.proofs.Near.{sized, point_most, tile_on, square_fits}
use Rattle.walk.proofs.Groups.{tile_row}
use native.Mathlib.Omega.{arith}
use Rattle.walk.proofs.Readiness.{placed_of}
use Rattle.walk.proofs.ready.Outward.tile_row.Goals as goal

pub nonzero_rem-tile : goal.nonzero_rem-tile
nonzero_rem-tile c =
    let a = c.args in
    let s = sized a.self.now.g a.self.now.q (placed_of a.self.now) in omega arith

pub gap_to-dx-requires : goal.gap_to-dx-requires
gap_to-dx-requires c =
    let a = c.args in
    let pre = c.requires in
    let s = sized a.self.now.g a.self.now.q (placed_of a.self.now) in
    let m = point_most a.self.now.g a.self.now.q (placed_of a.self.now) in
    let o = tile_on a.self.now.g a.self.now.q (placed_of a.self.now) a.tile pre in
    (omega arith, omega arith, omega arith, omega arith)

pub nonzero_div-tile : goal.nonzero_div-tile
nonzero_div-tile c =
    let a = c.args in
    let s = sized a.self.now.g a.self.now.q (placed_of a.self.now) in omega arith

pub gap_to-dy-requires : goal.gap_to-dy-requires
gap_to-dy-requires c =
    let a = c.args in
    let pre = c.requires in
    let s = sized a.self.now.g a.self.now.q (placed_of a.self.now) in
    let m = point_most a.self.now.g a.self.now.q (placed_of a.self.now) in
    let o = tile_on a.self.now.g a.self.now.q (placed_of a.self.now) a.tile pre in
    (omega arith, omega arith, omega arith, omega arith)

pub overflow_mul-dx : goal.overflow_mul-dx
overflow_mul-dx c =
    let gap-to = c.gap_to-dx in
    omega (arith, square_fits gap-to.result gap-to.ensures.1)

pub overflow_mul-dy : goal.overflow_mul-dy
overflow_mul-dy c = omega (arith, square_fits c.gap_to-dy.result c.gap_to-dy.ensures.1)

pub overflow_add-dx : goal.overflow_add-dx
overflow_add-dx c =
    let gap-to = c.gap_to-dx in
    omega (arith, square_fits gap-to.result gap-to.ensures.1, square_fits c.gap_to-dy.result c.gap_to-dy.ensures.1)

pub returns : goal.returns
returns c =
    let a = c.args in
    let gap-to = c.gap_to-dx in
    let gap-to2 = c.gap_to-dy in
    tile_row a.self.now.g a.self.now.q c.from.result a.tile gap-to.result gap-to2.result gap-to.ensures.0 gap-to2.ensures.0 c.from.ensures
