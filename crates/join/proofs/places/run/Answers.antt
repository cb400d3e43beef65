-- `join::places::run` meets its contract: good ends lie among the entries. Assumes nothing.
use Rattle.rules.specs.Tables.{run_start, run_end, run_at}
use Rattle.join.proofs.Judging.{ends_among}
use Rattle.join.proofs.places.run.Goals as goal

pub slice_bounds-result-count : goal.slice_bounds-result-count
slice_bounds-result-count c = (ends_among c.side.inside.reg.now _ _ c.args.side.now c.args.k c.side.view_is c.requires.1).0

pub slice_bounds-result-start : goal.slice_bounds-result-start
slice_bounds-result-start c = (ends_among c.side.inside.reg.now _ _ c.args.side.now c.args.k c.side.view_is c.requires.1).0

pub slice_bounds-result-end : goal.slice_bounds-result-end
slice_bounds-result-end c = (ends_among c.side.inside.reg.now _ _ c.args.side.now c.args.k c.side.view_is c.requires.1).1

pub returns : goal.returns
unfolding run_start run_end run_at
returns c = rw (← c.side.view_is)
