-- `search::asked::Asked::judge_tile` meets its contract: what is held back and what is left of the tile, class by class. Assumes nothing.
use mathlib.Core.Path.{◌≡◌}
use lib.ListN.{length}
use Rattle.search.proofs.Classes.{TileLeft}
use Rattle.search.proofs.asked.Asked.judge_tile.Given as goal

abbrev pub invariant-loop-class : goal.invariant-loop-class
invariant-loop-class form l =
    TileLeft l.self.g l.self.t l.self.q l.self.r l.tile l.count (form.L.Form.numbers l.initial.lent) (form.L.Form.numbers l.lent) l.held l.class × (length l.lent ≡ length l.initial.lent)
