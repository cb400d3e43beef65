-- `join::boxes::box_of` meets its contract: grown on around what is left, it is the whole box. Assumes nothing.
use lib.ListN.{get_or}
use Rattle.rules.specs.Register.{rectangle}
use Rattle.join.proofs.Boxing.{grown_on, grown_out, grown_holds}
use native.Mathlib.Omega.{arith}
use Rattle.join.proofs.boxes.box_of.Goals as goal

pub loop-i-init : goal.loop-i-init
loop-i-init c = record { most = omega arith; rest = rw c.footprint-b.ensures.0; near = c.footprint-b.ensures.1 }

pub loop-i-preserved : goal.loop-i-preserved
loop-i-preserved c =
    grown_on c.args.g c.args.reg.now c.args.run.now (rectangle c.args.g c.args.reg.now (get_or c.args.run.now 0 0)) c.loop-i.b c.footprint.result c.around-b.result c.loop-i.i-index c.loop-i.invariant c.loop-i-test.true c.footprint.ensures.0 c.around-b.ensures

pub returns : goal.returns
returns c =
    let e = grown_out c.args.g c.args.reg.now c.args.run.now (rectangle c.args.g c.args.reg.now (get_or c.args.run.now 0 0)) c.loop-i.b c.loop-i.i-index c.loop-i.invariant (omega arith) in
    (e, grown_holds c.args.g c.args.reg.now c.args.run.now (rectangle c.args.g c.args.reg.now (get_or c.args.run.now 0 0)) c.loop-i.b c.loop-i.invariant.near e)
