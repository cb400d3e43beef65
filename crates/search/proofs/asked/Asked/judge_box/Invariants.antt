-- `search::asked::Asked::judge_box` meets its contract: what is left of the box, row by row. Assumes nothing.
use mathlib.Core.Path.{◌≡◌}
use lib.ListN.{length}
use Rattle.rules.specs.Search.{read_runs}
use Rattle.search.specs.Reading.{row_most}
use Rattle.search.proofs.Pieces.{PiecesLeft}
use Rattle.search.proofs.Tiles.{row_runs}
use Rattle.search.proofs.asked.Asked.judge_box.Given as goal

abbrev pub invariant-loop-row : goal.invariant-loop-row
invariant-loop-row form l =
    let s = l.self in
    PiecesLeft s.g s.t s.q s.r (read_runs s.g s.q s.r) (row_runs s.g s.q s.r) row_most 0 (form.L.Form.numbers l.initial.lent) l.first l.last (form.L.Form.numbers l.lent) l.found l.row × (length l.lent ≡ length l.initial.lent)
