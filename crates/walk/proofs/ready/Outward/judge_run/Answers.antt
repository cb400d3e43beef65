-- `walk::ready::Outward::judge_run` meets its contract: its ends are judged, then its entries. Assumes nothing.
use mathlib.Core.Path.{refl, sym, ◌∙◌}
use borrow.Author.Tests.{not-false}
use Rattle.laws.proofs.Tests.{not_not}
use Rattle.rules.specs.Tables.{run_start, run_end}
use Rattle.walk.proofs.Judging.{run_ends_bad, run_part_bad, run_fine}
use Rattle.walk.proofs.ready.Outward.judge_run.Goals.{then-bad_ends-via-then-bad_ends, then-bad_ends-via-else-bad_ends+then-bad_entries}
use Rattle.walk.specs.Outward.{lent_by}
use Rattle.walk.proofs.ready.Outward.judge_run.Goals as goal

pub returns-then-bad_ends : goal.returns-then-bad_ends
unfolding run_start run_end
returns-then-bad_ends c =
    let a = c.args in
    let lent = lent_by a.self.now in
    elim c.then-bad_ends.branch [
      | then-bad_ends-via-then-bad_ends w ↦ run_ends_bad a.self.now.g lent a.k _ _ refl refl (sym c.bad_ends.ensures ∙ w.if-bad_ends.true)
      | then-bad_ends-via-else-bad_ends+then-bad_entries w ↦ run_part_bad a.self.now.g lent a.k _ _ refl refl (sym c.bad_ends.ensures ∙ w.if-bad_ends.false) (not_not _ (sym w.bad_entries.ensures ∙ w.if-bad_entries.true))
    ]

pub returns : goal.returns
unfolding run_start run_end
returns c =
    let a = c.args in
    let lent = lent_by a.self.now in
    run_fine a.self.now.g lent a.k _ _ refl refl (sym c.bad_ends.ensures ∙ c.if-bad_ends.false) (not-false _ (sym c.bad_entries.ensures ∙ c.if-bad_entries.false))
