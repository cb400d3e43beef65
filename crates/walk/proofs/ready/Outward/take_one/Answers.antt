-- `walk::ready::Outward::take_one` meets its contract. Assumes nothing.
use Rattle.std.proofs.Common.{◌≡◌, refl, rules}
use Rattle.std.specs.Prelude.{Some, None}
use Rattle.rules.specs.Front.{decoded}
use Rattle.walk.proofs.Runs.{taken_known, taken_unknown}
use Rattle.walk.specs.Outward.{lent_by}
use Rattle.walk.proofs.ready.Outward.take_one.Goals as goal

pub returns-in_err-row : goal.returns-in_err-row
returns-in_err-row c =
    let a = c.args in
    let lent = lent_by a.self.now in
    let read : None ≡ decoded c.row_at.result = search rules in
    rw c.from_residual.ensures
    (taken_unknown a.self.now.g lent a.self.now.q a.front.now a.out.now a.s c.requires.head_there.0 c.row_at.result None c.row_at.ensures read refl)

pub returns : goal.returns
returns c =
    let a = c.args in
    let take = c.take_item in
    let lent = lent_by a.self.now in
    let read : Some c.in_ok-row.row ≡ decoded c.row_at.result = search rules in
    taken_known a.self.now.g lent a.self.now.q a.front.now a.out.now a.s c.requires.head_there.0 c.row_at.result (Some c.in_ok-row.row) c.row_at.ensures read
    c.in_ok-row.row refl take.new.front take.new.out take.result take.ensures
