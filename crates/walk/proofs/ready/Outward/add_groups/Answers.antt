-- `walk::ready::Outward::add_groups` meets its contract: what stands, with the groups that are left brought to it, is the whole. Assumes nothing.
use Rattle.walk.proofs.Bringing.{bring_some, some_lost, bring_none}
use Rattle.walk.proofs.Starting.{groups_next, groups_none}
use Rattle.walk.proofs.ready.Outward.add_groups.Goals as goal

pub returns-in_err-f : goal.returns-in_err-f
returns-in_err-f c =
    let a = c.args in
    let loop = c.loop-d in
    rw c.from_residual.ensures (some_lost loop.invariant _ _ (groups_next a.self.now.g a.self.now.q _ loop.d-index c.loop-d-test.true) c.in_err-f.ensures)

pub loop-d-preserved : goal.loop-d-preserved
loop-d-preserved c =
    let a = c.args in
    let loop = c.loop-d in
    bring_some loop.invariant _ _ (groups_next a.self.now.g a.self.now.q _ loop.d-index c.loop-d-test.true) c.in_ok-f.ensures

pub returns : goal.returns
returns c =
    let a = c.args in
    let loop = c.loop-d in
    bring_none loop.invariant (groups_none a.self.now.g a.self.now.q loop.d-index c.loop-d-test.false)
