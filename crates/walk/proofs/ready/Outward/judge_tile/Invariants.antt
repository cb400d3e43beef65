-- `walk::ready::Outward::judge_tile` meets its contract: the runs from a class on are left, and what came before is counted. Assumes nothing.
use Rattle.walk.specs.Outward.{lent_by}
use Rattle.walk.proofs.Classes.{Counting}
use Rattle.walk.proofs.ready.Outward.judge_tile.Given as goal

abbrev pub invariant-loop-class : goal.invariant-loop-class
invariant-loop-class l = Counting l.self.g (lent_by l.self) l.tile l.mask l.count l.class
