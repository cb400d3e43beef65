-- `walk::ready::Outward::group_row` meets its contract. Assumes nothing.
use Rattle.walk.proofs.Near.{square_fits}
use Rattle.walk.proofs.Groups.{group_row}
use native.Mathlib.Omega.{arith}
use Rattle.walk.proofs.ready.Outward.group_row.Goals as goal

pub overflow_mul-gap : goal.overflow_mul-gap
overflow_mul-gap c = omega (arith, square_fits c.group_gap-gap.result c.group_gap-gap.ensures.1)

pub returns : goal.returns
returns c =
    let a = c.args in
    let group-gap = c.group_gap-gap in
    group_row a.self.now.g a.self.now.q c.from.result a.d a.level group-gap.result group-gap.ensures.0 c.from.ensures
