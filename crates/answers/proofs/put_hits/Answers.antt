use Rattle.rules.specs.Text.{hit_of}
use Rattle.sheet.proofs.Pages.{nothing_put, each_step, each_end}
use Rattle.answers.proofs.put_hits.Goals as goal

pub put_one-requires : goal.put_one-requires
put_one-requires c = c.requires.named c.loop-hit.hit-index c.loop-hit-test.true

pub loop-hit-init : goal.loop-hit-init
loop-hit-init c = nothing_put _

pub loop-hit-preserved : goal.loop-hit-preserved
loop-hit-preserved c = each_step (hit_of c.args.g c.args.reg.now c.args.q) _ _ _ _ _ c.loop-hit-test.true c.loop-hit.invariant c.put_one.ensures

pub returns : goal.returns
returns c = each_end (hit_of c.args.g c.args.reg.now c.args.q) _ _ _ _ c.loop-hit-test.false c.loop-hit.invariant
