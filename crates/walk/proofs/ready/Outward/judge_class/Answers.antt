-- `walk::ready::Outward::judge_class` meets its contract. Assumes nothing.
use mathlib.Core.Path.{refl, sym, ◌∙◌}
use Rattle.std.specs.Prelude.{Some}
use Rattle.walk.proofs.Classes.{class_on, class_off, judged_as_law, counted_none}
use Rattle.walk.specs.Outward.{lent_by}
use Rattle.walk.proofs.ready.Outward.judge_class.Goals as goal

pub returns-then-not-is_on : goal.returns-then-not-is_on
returns-then-not-is_on c =
    let a = c.args in
    let lent = lent_by a.self.now in
    judged_as_law a.self.now.g lent _ _ 1 (Some 0) (counted_none a.self.now.g lent) (class_off a.tile a.mask a.class (sym c.is_on.ensures ∙ c.if-not-is_on.true))

pub returns : goal.returns
returns c =
    let a = c.args in
    let lent = lent_by a.self.now in
    judged_as_law a.self.now.g lent _ _ 1 c.judge_run.result c.judge_run.ensures (class_on a.tile a.mask a.class _ (sym c.is_on.ensures ∙ c.if-not-is_on.false) refl)
