-- `walk::group::row_tiles` meets its contract. Assumes nothing.
use mathlib.Core.Path.{refl}
use Rattle.rules.specs.Lines.{row_line}
use native.Mathlib.Omega.{arith}
use Rattle.walk.proofs.group.row_tiles.Goals as goal

pub tile_no-requires : goal.tile_no-requires
tile_no-requires c = let p = c.requires in (p.0, p.1, omega arith)

pub returns : goal.returns
unfolding row_line
returns c = record { start = c.tile_no.ensures.0; apart = refl; many = refl; close = omega arith; few = let p = c.requires in omega arith }
