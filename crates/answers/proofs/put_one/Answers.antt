-- The hit's rectangle lies on the grid, and its square is that of the rules.
use Rattle.std.proofs.Common.{ap, ◌∙◌}
use Rattle.rules.specs.Distance.{square}
use Rattle.rules.specs.declared.Rect.{Rect}
use Rattle.answers.proofs.Hits.{hit_stands, point_near, hit_near, hit_is}
use Rattle.answers.proofs.put_one.Goals as goal

pub footprint-a-requires : goal.footprint-a-requires
footprint-a-requires c = hit_stands c.args.g c.args.reg.now c.args.q c.args.hit c.requires

pub square-square-requires : goal.square-square-requires
square-square-requires c =
    let a = c.args in
    (rw c.point.ensures (point_near a.g a.reg.now a.q a.hit c.requires), hit_near a.g a.reg.now a.q a.hit c.requires _ c.footprint-a.ensures)

pub returns : goal.returns
returns c =
    let a = c.args in
    rw (← hit_is a.g a.reg.now a.q a.hit _ _ c.footprint-a.ensures (c.square-square.ensures.0 ∙ ap (λ (p : Rect). square p c.footprint-a.result) c.point.ensures)) c.put_hit.ensures
