-- `walk::refused` meets its contract. Assumes nothing.
use mathlib.Core.Path.{refl}
use Rattle.rules.specs.Refusals.{paper_answer}
use Rattle.walk.proofs.refused.Goals as goal

pub returns : goal.returns
unfolding paper_answer
returns c = record { paper = refl; walk = refl }
