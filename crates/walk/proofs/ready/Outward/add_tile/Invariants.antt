-- `walk::ready::Outward::add_tile` meets its contract: what stands, with the runs from a class on brought to it, is the whole. Assumes nothing.
use mathlib.Core.Path.{◌≡◌}
use mathlib.Core.Bool.{true}
use Rattle.rules.specs.Tables.{good_runs}
use Rattle.walk.specs.Outward.{lent_by}
use Rattle.walk.specs.Fill.{stands}
use Rattle.walk.specs.Reading.{run_rows}
use Rattle.walk.proofs.Bringing.{Bringing}
use Rattle.walk.proofs.Classes.{runs_from}
use Rattle.walk.proofs.ready.Outward.add_tile.Given as goal

abbrev pub invariant-loop-class : goal.invariant-loop-class
invariant-loop-class l =
    Bringing (stands l.initial.front l.initial.batch l.initial.f) (run_rows l.self.g (lent_by l.self) l.self.q (runs_from l.tile l.mask 0)) (run_rows l.self.g (lent_by l.self) l.self.q (runs_from l.tile l.mask l.class)) l.front l.batch l.f
    × (good_runs l.self.g (lent_by l.self) (runs_from l.tile l.mask l.class) ≡ true)
