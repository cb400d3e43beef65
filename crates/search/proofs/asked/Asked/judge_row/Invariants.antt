-- `search::asked::Asked::judge_row` meets its contract: what is left of the row, column by column. Assumes nothing.
use mathlib.Core.Path.{◌≡◌}
use lib.ListN.{length}
use Rattle.rules.specs.Box.{box_row}
use Rattle.search.specs.Reading.{tile_most, runs_in}
use Rattle.search.proofs.Pieces.{PiecesLeft}
use Rattle.search.proofs.Tiles.{column_runs}
use Rattle.search.proofs.asked.Asked.judge_row.Given as goal

abbrev pub invariant-loop-col : goal.invariant-loop-col
invariant-loop-col form l =
    let s = l.self in
    PiecesLeft s.g s.t s.q s.r (runs_in s.g s.q s.r (box_row s.g s.q s.r l.row)) (column_runs s.g s.q s.r l.row) tile_most l.count (form.L.Form.numbers l.initial.lent) l.first l.last (form.L.Form.numbers l.lent) l.found l.col × (length l.lent ≡ length l.initial.lent)
