-- `search::asked::Asked::judge_tile` meets its contract: what is held back and what is left of the tile, class by class. Assumes nothing.
use mathlib.Core.Path.{refl, ◌∙◌}
use Rattle.search.proofs.Classes.{tile_all, tile_on, tile_bad, tile_end}
use native.Mathlib.Omega.{arith}
use Rattle.search.proofs.asked.Asked.judge_tile.Goals as goal

pub loop-class-init : goal.loop-class-init
loop-class-init form c = (tile_all, refl)

pub returns-in_err-held : goal.returns-in_err-held
returns-in_err-held form c = rw c.from_residual.ensures (tile_bad c.loop-class.invariant.0 (omega arith) c.in_err-held.ensures)

pub loop-class-preserved : goal.loop-class-preserved
loop-class-preserved form c =
    let s = c.hold_class.auto.lent in
    (tile_on c.loop-class.invariant.0 (omega arith) c.in_ok-held.ensures (form.met.L.Form.same_count _ _ s), s ∙ c.loop-class.invariant.1)

pub returns : goal.returns
returns form c = tile_end c.loop-class.invariant.0 (omega arith) c.judge_part.result _ c.judge_part.ensures
