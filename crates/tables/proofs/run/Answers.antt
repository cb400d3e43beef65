-- `tables::run` meets its contract: the part lies where the ends that were told say. Assumes nothing.
use Prim.Native.Nat.{◌≤◌}
use lib.ListN.{length}
use Rattle.rules.specs.Refusals.{paper_ends}
use Rattle.tables.proofs.Runs.{part_told, part_good, part_refused}
use native.Mathlib.Omega.{arith}
use Rattle.tables.proofs.run.Goals as goal
use Rattle.tables.proofs.run.Goals.{In-Ok}

good : (c : In-Ok) → (c.in-Ok.part.begin ≤ c.in-Ok.part.past) × (c.in-Ok.part.past ≤ length c.args.entries.now)
good c = part_good c.args.g c.args.starts.now c.args.entries.now c.args.tile c.args.class c.args.entries.ref_ptr _ _ c.in-Ok.ensures

pub offset_bounds-entries-part : goal.offset_bounds-entries-part
offset_bounds-entries-part c = omega (arith, good (goal.at.offset_bounds-entries-part c).In-Ok)

pub slice_bounds-result-count : goal.slice_bounds-result-count
slice_bounds-result-count c = omega (arith, good (goal.at.slice_bounds-result-count c).In-Ok)

pub slice_bounds-result-start : goal.slice_bounds-result-start
slice_bounds-result-start c = omega (arith, good (goal.at.slice_bounds-result-start c).In-Ok)

pub slice_bounds-result-end : goal.slice_bounds-result-end
slice_bounds-result-end c = (good (goal.at.slice_bounds-result-end c).In-Ok).1

pub returns-in-Ok : goal.returns-in-Ok
returns-in-Ok c = part_told c.args.g c.args.starts.now c.args.entries.now c.args.tile c.args.class c.args.entries.ref_ptr _ _ c.in-Ok.ensures

pub returns-in-Err : goal.returns-in-Err
unfolding paper_ends
returns-in-Err c = part_refused c.args.g c.args.starts.now c.args.entries.now c.args.tile c.args.class c.args.entries.ref_ptr c.in-Err.field-0 c.in-Err.ensures
