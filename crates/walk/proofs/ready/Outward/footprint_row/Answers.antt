-- `walk::ready::Outward::footprint_row` meets its contract. Assumes nothing.
use mathlib.Core.Path.{ap, ◌∙◌}
use Rattle.rules.specs.Distance.{square}
use Rattle.rules.specs.declared.Rect.{Rect}
use Rattle.rules.proofs.Good.{good_entry}
use Rattle.walk.proofs.Near.{near_point, near_footprint, footprint_row}
use Rattle.walk.proofs.Readiness.{placed_of}
use Rattle.walk.proofs.ready.Outward.footprint_row.Goals as goal

pub footprint-a-requires : goal.footprint-a-requires
footprint-a-requires c = let a = c.args in (good_entry a.self.now.g a.self.now.reg.now a.i c.requires.may_stand).0

pub square-requires : goal.square-requires
square-requires c =
    let a = c.args in
    let pre = c.requires in
    (rw c.point.ensures (near_point a.self.now.g a.self.now.q (placed_of a.self.now)), rw c.footprint-a.ensures (near_footprint a.self.now.g a.self.now.q (placed_of a.self.now) a.self.now.reg.now a.i pre.may_stand))

pub returns : goal.returns
returns c =
    let a = c.args in
    let footprint = c.footprint-a in
    let there = c.square in
    footprint_row a.self.now.g a.self.now.reg.now a.self.now.q a.i footprint.result there.result c.from.result footprint.ensures (there.ensures.0 ∙ ap (λ (p : Rect). square p footprint.result) c.point.ensures) c.from.ensures
