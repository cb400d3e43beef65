-- `walk::ready::Outward::open_tile` meets its contract. Assumes nothing.
use Rattle.walk.proofs.Adding.{refilled}
use Rattle.walk.proofs.Classes.{tile_fine}
use native.Mathlib.Omega.{arith}
use Rattle.walk.specs.Outward.{lent_by}
use Rattle.walk.proofs.ready.Outward.open_tile.Goals as goal

pub returns : goal.returns
returns c =
    let a = c.args in
    let add = c.add_tile in
    let lent = lent_by a.self.now in
    refilled add.new.front add.new.batch add.result _ _ add.ensures
    (tile_fine a.self.now.g lent a.self.now.q a.tile _ (omega (arith, c.if-tile_count-tile.false, c.tile_count.ensures)) c.in_ok-judge_tile.ensures.good)
