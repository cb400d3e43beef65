-- `search::asked::Asked::judge_row` meets its contract: what is left of the row, column by column. Assumes nothing.
use mathlib.Core.Path.{refl, ◌∙◌}
use Rattle.rules.specs.Distance.{point}
use Rattle.rules.proofs.Good.{good_sizes}
use Rattle.search.proofs.Entries.{near_point}
use Rattle.search.proofs.Pieces.{pieces_on, pieces_bad, pieces_end}
use Rattle.search.proofs.Tiles.{row_all}
use native.Mathlib.Omega.{arith}
use Rattle.search.proofs.asked.Asked.judge_row.Goals as goal

pub last_column-last-requires : goal.last_column-last-requires
unfolding point
last_column-last-requires form c =
    let s = c.args.self.now in
    let d = s.radius in
    let k = good_sizes s.g s.sizes in
    let n = (near_point s.g s.q (record { sizes = s.sizes; point = s.place })).x in
    omega arith

pub loop-col-init : goal.loop-col-init
loop-col-init form c =
    let s = c.args.self.now in
    (row_all (record { sizes = s.sizes; point = s.place }) c.args.row c.first_column-first.ensures c.last_column-last.ensures, refl)

pub returns-in_err-found : goal.returns-in_err-found
returns-in_err-found form c = rw c.from_residual.ensures (pieces_bad c.loop-col.invariant.0 (omega arith) c.in_err-found.ensures)

pub loop-col-preserved : goal.loop-col-preserved
loop-col-preserved form c =
    let s = c.judge_at.auto.lent in
    (pieces_on c.loop-col.invariant.0 (omega arith) c.in_ok-found.ensures (form.met.L.Form.same_count _ _ s), s ∙ c.loop-col.invariant.1)

pub returns : goal.returns
returns form c = pieces_end c.loop-col.invariant.0 (omega arith)
