-- `ports::luv_run_n` meets its contract: the ends that were told, as a place and a length. Assumes nothing.
use Rattle.rules.specs.Refusals.{paper_ends}
use Rattle.tables.proofs.Runs.{part_good}
use Rattle.outward.proofs.Tell.{run_at, run_refused}
use Rattle.ports.proofs.luv_run_n.Goals as goal

pub overflow_sub-value : goal.overflow_sub-value
overflow_sub-value c =
    let a = c.args in
    (part_good _ a.starts.now a.entries.now a.tile a.class a.entries.ref_ptr _ _ c.in-Ok.ensures).0

pub returns-in-Ok : goal.returns-in-Ok
returns-in-Ok c = run_at _ _ c.in-Ok.ensures

pub returns-in-Err : goal.returns-in-Err
unfolding paper_ends
returns-in-Err c = run_refused _ c.in-Err.why _ c.from.ensures c.in-Err.ensures
