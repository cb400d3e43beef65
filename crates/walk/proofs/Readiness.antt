-- What a walk's reading shows: refusals 1, 2 and 4 do not apply. Assumes nothing.
use Prim.Native.Nat.{◌≤◌}
use Rattle.rules.specs.Sizes.{tile_count}
use Rattle.rules.specs.Register.{count}
use Rattle.grid.proofs.Bounds.{square_most}
use Rattle.walk.specs.Reading.{Placed}
use Rattle.walk.specs.Outward.{lent_by}
use Rattle.walk.specs.declared.ready.Outward.{Outward}
use Rattle.walk.proofs.Near.{sized}
use Rattle.walk.proofs.Starting.{few_footprints}

pub placed_of : (w : Outward) → Placed w.g w.q
placed_of w = record { sizes = w.sizes; point = w.point }

pub few_tiles : (w : Outward) → tile_count w.g ≤ 4096
unfolding tile_count
few_tiles w = square_most w.g.n (sized w.g w.q (placed_of w)).n_most

pub few_lent : (w : Outward) → count w.reg.now ≤ 65536
few_lent w = few_footprints w.g (lent_by w) w.lengths
