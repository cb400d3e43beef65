-- `grid::allowed_mask` meets its contract: the mask that is read is that of the two places. Assumes nothing.
use Rattle.rules.specs.Span.{place}
use Rattle.rules.specs.Classes.{is_set, allowed}
use Rattle.grid.proofs.Masks.{mask_of, sets, set_read}
use Rattle.grid.proofs.allowed_mask.Goals as goal

pub returns : goal.returns
unfolding sets mask_of is_set allowed
returns c = set_read (place c.args.col c.args.qcol) (place c.args.row c.args.qrow) _ _ c.place-2.ensures.0 c.place.ensures.0
