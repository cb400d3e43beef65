-- `walk::ready::Outward::judge_tile` meets its contract: the runs from a class on are left, and what came before is counted. Assumes nothing.
use Rattle.std.specs.Prelude.{Some, None}
use Rattle.walk.proofs.Judging.{starts_stand}
use Rattle.walk.proofs.Classes.{runs_all, judged_as_law, count_bad, count_on, count_end}
use Rattle.walk.specs.Outward.{lent_by}
use Rattle.walk.proofs.ready.Outward.judge_tile.Goals as goal

pub judge_class-requires : goal.judge_class-requires
judge_class-requires c =
    let a = c.args in
    let pre = c.requires in
    starts_stand a.self.now.g (lent_by a.self.now) a.self.now.lengths a.tile c.loop-class.class pre.tile_there c.loop-class-test.true

pub returns-in_err-count : goal.returns-in_err-count
returns-in_err-count c =
    let a = c.args in
    let mask = c.tile_mask-mask in
    let loop = c.loop-class in
    let lent = lent_by a.self.now in
    rw c.from_residual.ensures
    (judged_as_law a.self.now.g lent _ _ 16 None
    (count_bad a.self.now.g lent a.tile mask.result loop.count loop.class c.loop-class-test.true loop.invariant (c.in_err-count.ensures))
    (runs_all a.tile mask.result a.self.now.g a.self.now.q mask.ensures))

pub loop-class-preserved : goal.loop-class-preserved
loop-class-preserved c =
    let a = c.args in
    let loop = c.loop-class in
    count_on a.self.now.g (lent_by a.self.now) a.tile c.tile_mask-mask.result loop.count loop.class c.loop-class-test.true loop.invariant c.in_ok-count.field-0 (c.in_ok-count.ensures)

pub returns : goal.returns
returns c =
    let a = c.args in
    let mask = c.tile_mask-mask in
    let loop = c.loop-class in
    let lent = lent_by a.self.now in
    judged_as_law a.self.now.g lent _ _ 16 (Some loop.count)
    (count_end a.self.now.g lent a.tile mask.result loop.count loop.class loop.invariant c.loop-class-test.false)
    (runs_all a.tile mask.result a.self.now.g a.self.now.q mask.ensures)
