-- `walk::ready::Outward::add_start` meets its contract: the tile's footprints, then the groups. Assumes nothing.
use mathlib.Core.Path.{sym, ap, ◌∙◌}
use Rattle.laws.specs.Lists.{each}
use Rattle.rules.specs.Front.{directions}
use Rattle.rules.specs.Walk.{group_if}
use Rattle.walk.specs.Fill.{Got, add_all}
use Rattle.walk.specs.Groups.{item_rows}
use Rattle.walk.proofs.Adding.{refilled}
use Rattle.walk.proofs.Bringing.{add_all_lost}
use Rattle.walk.proofs.ready.Outward.add_start.Goals as goal

pub returns-in_err-f : goal.returns-in_err-f
returns-in_err-f c =
    let groups = item_rows c.args.self.now.g c.args.self.now.q (each (group_if c.args.self.now.g c.args.self.now.q 1) directions) in
    rw c.from_residual.ensures (sym (add_all_lost groups) ∙ ap (λ (x : Got). add_all x groups) c.in_err-f.ensures)

pub returns : goal.returns
returns c =
    let groups = item_rows c.args.self.now.g c.args.self.now.q (each (group_if c.args.self.now.g c.args.self.now.q 1) directions) in
    let add = c.add_groups in
    refilled add.new.front add.new.batch add.result _ _ add.ensures (ap (λ (x : Got). add_all x groups) c.in_ok-f.ensures.is)
