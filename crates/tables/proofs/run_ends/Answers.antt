-- `tables::run_ends` meets its contract: past the other refusals its two starts stand in the table, and are judged. Assumes nothing.
use mathlib.Core.Path.{sym, refl, ◌∙◌}
use native.Mathlib.Omega.{arith}
use Rattle.rules.specs.Tables.{run_no, run_start, run_end}
use Rattle.rules.specs.Refusals.{paper_ends}
use Rattle.tables.proofs.Runs.{ends_judged, run_there}
use Rattle.tables.proofs.run_ends.Goals as goal

pub bounds-starts-k : goal.bounds-starts-k
bounds-starts-k c =
    omega (arith, run_there c.args.g c.args.starts.now c.args.tile c.args.class (sym c.bad_starts.ensures ∙ c.if-bad_starts.false) (sym c.bad_run.ensures ∙ c.if-bad_run.false))

pub bounds-starts-k-2 : goal.bounds-starts-k-2
bounds-starts-k-2 c =
    run_there c.args.g c.args.starts.now c.args.tile c.args.class (sym c.bad_starts.ensures ∙ c.if-bad_starts.false) (sym c.bad_run.ensures ∙ c.if-bad_run.false)

pub returns-then-bad_ends : goal.returns-then-bad_ends
unfolding paper_ends run_start run_end run_no
returns-then-bad_ends c =
    rw (sym c.bad_ends.ensures ∙ c.if-bad_ends.true)
    at (ends_judged c.args.g c.args.starts.now c.args.entries c.args.tile c.args.class (sym c.bad_sizes.ensures ∙ c.if-bad_sizes.false) (sym c.bad_starts.ensures ∙ c.if-bad_starts.false) (sym c.bad_run.ensures ∙ c.if-bad_run.false) _ _ refl refl)

pub returns : goal.returns
unfolding run_start run_end run_no
returns c =
    rw (sym c.bad_ends.ensures ∙ c.if-bad_ends.false)
    at (ends_judged c.args.g c.args.starts.now c.args.entries c.args.tile c.args.class (sym c.bad_sizes.ensures ∙ c.if-bad_sizes.false) (sym c.bad_starts.ensures ∙ c.if-bad_starts.false) (sym c.bad_run.ensures ∙ c.if-bad_run.false) _ _ refl refl)
