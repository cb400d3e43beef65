-- `walk::ready::Outward::add_groups` meets its contract: what stands, with the groups that are left brought to it, is the whole. Assumes nothing.
use lib.ListN.{drop}
use Rattle.laws.specs.Lists.{each}
use Rattle.rules.specs.Front.{directions}
use Rattle.rules.specs.Walk.{group_if}
use Rattle.walk.specs.Fill.{stands}
use Rattle.walk.specs.Groups.{item_rows}
use Rattle.walk.proofs.Bringing.{Bringing}
use Rattle.walk.proofs.ready.Outward.add_groups.Given as goal

abbrev pub invariant-loop-d : goal.invariant-loop-d
invariant-loop-d l =
    Bringing (stands l.initial.front l.initial.batch l.initial.f) (item_rows l.self.g l.self.q (each (group_if l.self.g l.self.q 1) directions)) (item_rows l.self.g l.self.q (each (group_if l.self.g l.self.q 1) (drop l.d-index directions))) l.front l.batch l.f
