-- `join::runs::Runs::listed` meets its contract: today distance alone decides. Assumes nothing.
use mathlib.Core.Path.{ap₂, ◌∙◌}
use Rattle.rules.specs.Distance.{within}
use Rattle.rules.specs.Join.{lists}
use Rattle.join.proofs.runs.Runs.listed.Goals as goal

pub returns : goal.returns
unfolding lists
returns c = c.within.ensures ∙ ap₂ (within c.args.self.now.r) c.requires.0 c.footprint.ensures.0
