-- `join::judge::bad_run` meets its contract: its ends are judged, then its entries. Assumes nothing.
use mathlib.Core.Path.{refl, sym, ◌∙◌}
use Prim.Native.Nat.{◌≤◌, ◌+◌}
use lib.ListN.{length, get_or}
use Rattle.rules.specs.Tables.{run_start, run_end}
use Rattle.tables.proofs.Runs.{good_ends}
use Rattle.join.proofs.Judging.{ends_bad, ends_good}
use Rattle.join.proofs.judge.bad_run.Goals.{Else-bad_ends}
use Rattle.join.proofs.judge.bad_run.Goals as goal

good : (c : Else-bad_ends) → (get_or c.t.inside.starts.now c.args.k 0 ≤ get_or c.t.inside.starts.now (c.args.k + 1) 0) × (get_or c.t.inside.starts.now (c.args.k + 1) 0 ≤ length c.t.inside.entries.now)
good c = good_ends _ _ _ (sym c.bad_ends.ensures ∙ c.if-bad_ends.false)

pub slice_bounds-bad_entries-count : goal.slice_bounds-bad_entries-count
slice_bounds-bad_entries-count c = (good (goal.at.slice_bounds-bad_entries-count c).Else-bad_ends).0

pub slice_bounds-bad_entries-start : goal.slice_bounds-bad_entries-start
slice_bounds-bad_entries-start c = (good (goal.at.slice_bounds-bad_entries-start c).Else-bad_ends).0

pub slice_bounds-bad_entries-end : goal.slice_bounds-bad_entries-end
slice_bounds-bad_entries-end c = (good (goal.at.slice_bounds-bad_entries-end c).Else-bad_ends).1

pub returns-then-bad_ends : goal.returns-then-bad_ends
unfolding run_start run_end
returns-then-bad_ends c =
    c.if-bad_ends.true ∙ rw (← c.t.view_is)
    (ends_bad c.args.g c.t.inside.reg.now c.t.inside.starts.now c.t.inside.entries.now c.args.k _ _ refl refl (sym c.bad_ends.ensures ∙ c.if-bad_ends.true))

pub returns-else-bad_ends : goal.returns-else-bad_ends
unfolding run_start run_end
returns-else-bad_ends c =
    c.bad_entries.ensures ∙ rw (← c.t.view_is)
    (ends_good c.args.g c.t.inside.reg.now c.t.inside.starts.now c.t.inside.entries.now c.args.k _ _ refl refl (sym c.bad_ends.ensures ∙ c.if-bad_ends.false))
