-- `walk::ready::Outward::add_tiles` meets its contract: what stands, with the tiles from one on brought to it, is the whole. Assumes nothing.
use mathlib.Core.Path.{◌≡◌, ap, ◌∙◌}
use Prim.Native.Nat.{◌+◌, ◌*◌}
use Rattle.walk.specs.Fill.{stands, add_to, Held}
use Rattle.walk.proofs.Bringing.{bring_one, bring_lost, bring_none}
use Rattle.walk.proofs.Near.{tile_on}
use Rattle.walk.proofs.Groups.{tiles_next, tiles_none}
use native.Mathlib.Omega.{arith}
use Rattle.walk.proofs.Readiness.{placed_of}
use Rattle.walk.proofs.ready.Outward.add_tiles.Goals as goal

pub overflow_add-tiles : goal.overflow_add-tiles
overflow_add-tiles c =
    let a = c.args in
    let pre = c.requires in
    let on = pre.on_grid c.loop-i.i c.loop-i-test.true in
    omega (arith, on, (tile_on a.self.now.g a.self.now.q (placed_of a.self.now) _ on).2)

pub returns-in_err-f : goal.returns-in_err-f
returns-in_err-f c =
    let a = c.args in
    let loop = c.loop-i in
    rw c.from_residual.ensures
    (bring_lost loop.invariant _ _ (tiles_next a.self.now.g a.self.now.q _ a.tiles.apart loop.i a.tiles.many c.loop-i-test.true)
    (c.in_err-f.ensures ∙ ap (add_to (stands loop.front loop.batch loop.f)) c.tile_row.ensures))

pub loop-i-preserved : goal.loop-i-preserved
loop-i-preserved c =
    let a = c.args in
    let loop = c.loop-i in
    let next : a.tiles.start + (loop.i + 1) * a.tiles.apart ≡ a.tiles.start + loop.i * a.tiles.apart + a.tiles.apart = omega arith in
    let new : Held c.add.new.front c.add.new.batch c.in_ok-f.f (add_to (stands loop.front loop.batch loop.f) _) = rw c.tile_row.ensures at (c.in_ok-f.ensures) in
    rw next (bring_one loop.invariant _ _ (tiles_next a.self.now.g a.self.now.q _ a.tiles.apart loop.i a.tiles.many c.loop-i-test.true) new)

pub returns : goal.returns
returns c =
    let a = c.args in
    let loop = c.loop-i in
    bring_none loop.invariant (tiles_none a.self.now.g a.self.now.q _ a.tiles.apart loop.i a.tiles.many c.loop-i-test.false)
