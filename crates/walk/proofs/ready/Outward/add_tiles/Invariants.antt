-- `walk::ready::Outward::add_tiles` meets its contract: what stands, with the tiles from one on brought to it, is the whole. Assumes nothing.
use Prim.Native.Nat.{◌+◌, ◌-◌, ◌*◌}
use Rattle.walk.specs.Fill.{stands}
use Rattle.walk.proofs.Bringing.{Bringing}
use Rattle.walk.proofs.Groups.{tile_rows}
use Rattle.walk.proofs.ready.Outward.add_tiles.Given as goal

abbrev pub invariant-loop-i : goal.invariant-loop-i
invariant-loop-i l =
    Bringing (stands l.initial.front l.initial.batch l.initial.f) (tile_rows l.self.g l.self.q l.tiles.start l.tiles.apart l.tiles.many) (tile_rows l.self.g l.self.q (l.tiles.start + l.i * l.tiles.apart) l.tiles.apart (l.tiles.many - l.i)) l.front l.batch l.f
