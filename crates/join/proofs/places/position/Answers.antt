-- `join::places::position` meets its contract: how rows and columns lie, by their signs. Assumes nothing.
use Rattle.rules.specs.Sizes.{row_of, column_of}
use Rattle.join.specs.Levels.{position_of}
use native.Mathlib.Omega.{arith}
use Rattle.join.proofs.places.position.Goals as goal

pub returns : goal.returns
unfolding position_of row_of column_of
returns c = (omega (arith, c.place-y.ensures.0, c.place-x.ensures.0), omega (arith, c.place-y.ensures.1, c.place-x.ensures.1))
