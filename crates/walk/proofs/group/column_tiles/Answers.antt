-- `walk::group::column_tiles` meets its contract. Assumes nothing.
use mathlib.Core.Path.{refl}
use Rattle.rules.specs.Lines.{column_line}
use native.Mathlib.Omega.{arith}
use Rattle.walk.proofs.group.column_tiles.Goals as goal

pub tile_no-requires : goal.tile_no-requires
tile_no-requires c = let p = c.requires in (p.0, omega arith, p.1)

pub returns : goal.returns
unfolding column_line
returns c =
    let pre = c.requires in
    record { start = c.tile_no.ensures.0; apart = refl; many = refl; close = pre.0; few = let p = pre in omega arith }
