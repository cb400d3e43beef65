-- `walk::ready::Outward::run` meets its contract: what stands, worked on, is the whole; the measure is the weight of the waiting rows. Assumes nothing.
use mathlib.Core.Path.{◌≡◌}
use lib.ListN.{length}
use Rattle.walk.specs.Outward.{lent_by}
use Rattle.rules.specs.Front.{rows}
use Rattle.walk.specs.Taking.{standing}
use Rattle.walk.proofs.Weighing.{weighed}
use Rattle.walk.proofs.Runs.{Running}
use Rattle.walk.proofs.ready.Outward.run.Given as goal

abbrev pub invariant-loop-s : goal.invariant-loop-s
invariant-loop-s l =
    Running l.self.g (lent_by l.self) l.self.q l.initial.front l.initial.out l.head l.j l.front l.out l.s × (l.n ≡ length (rows l.front))

abbrev pub decreases-loop-s : goal.decreases-loop-s
decreases-loop-s l = weighed l.self.g (lent_by l.self) (standing l.front l.out l.j l.s)
