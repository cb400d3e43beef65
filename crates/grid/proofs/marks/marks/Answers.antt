-- `grid::marks::marks` meets its contract. Assumes nothing.
use Rattle.rules.specs.Classes.{is_set, marked}
use Rattle.grid.proofs.Masks.{nine, table, mask_of, mark_rule, mark_small}
use Rattle.grid.proofs.marks.marks.Goals as goal

pub returns : goal.returns
unfolding nine table mask_of is_set marked
returns c = (mark_small c.args.a c.args.b, mark_rule c.args.a c.args.b)
