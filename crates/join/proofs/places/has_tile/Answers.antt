-- `join::places::has_tile` meets its contract: its row and its column are on the grid. Assumes nothing.
use mathlib.Core.Path.{◌∙◌}
use Rattle.join.proofs.Around.{row_below, no_row, a_row}
use native.Mathlib.Omega.{arith}
use Rattle.join.proofs.places.has_tile.Goals as goal

pub reaches-requires : goal.reaches-requires
reaches-requires c = omega (arith, row_below c.args.g c.requires.0 c.args.t c.requires.2, c.requires.1, c.requires.3)

pub returns-then-reaches : goal.returns-then-reaches
returns-then-reaches c = c.reaches-then-reaches.ensures ∙ a_row c.args.g c.args.t c.args.p _ c.reaches.ensures c.if-reaches.true

pub returns-else-reaches : goal.returns-else-reaches
returns-else-reaches c = c.if-reaches.false ∙ no_row c.args.g c.args.t c.args.p _ c.reaches.ensures c.if-reaches.false
