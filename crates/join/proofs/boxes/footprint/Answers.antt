-- `join::boxes::footprint` meets its contract: what may be named begins on the grid. Assumes nothing.
use Rattle.join.proofs.Listing.{named_below, named_near}
use Rattle.join.proofs.boxes.footprint.Goals as goal

pub footprint-requires : goal.footprint-requires
footprint-requires c = named_below c.args.g c.args.reg.now c.args.i c.requires.1

pub returns : goal.returns
returns c = (c.footprint.ensures, rw c.footprint.ensures (named_near c.args.g c.args.reg.now c.args.i c.requires.0 c.requires.1))
