-- `probes::listing::list_at` meets its contract: a search in what is left of what is lent, and the numbers that it counts. Assumes nothing.
use Rattle.probes.proofs.Searched.{searched}
use Rattle.probes.proofs.listing.list_at.Goals as goal

pub returns : goal.returns
returns c =
    let a = c.args in
    searched a.g _ a.probe.now a.i a.total a.lent.now _ c.min-at.ensures _ _ c.search-answer.ensures _ c.counted.ensures
