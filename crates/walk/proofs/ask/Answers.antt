-- `walk::ask` meets its contract: the refusals in their order, then the rows. Assumes nothing.
use mathlib.Core.Path.{◌∙◌}
use Rattle.rules.specs.Walk.{walk_point}
use Rattle.walk.proofs.Asking.{ask_short, ask_refused, ask_marked, ask_beyond, ask_fine}
use Rattle.walk.proofs.Opening.{ask_unread, read_sizes, read_lengths, read_point}
use native.Mathlib.Omega.{arith}
use Rattle.walk.proofs.ask.Goals.{then-walk-via-then-walk, then-walk-via-else-walk+then-whole-walk}
use Rattle.walk.proofs.ask.Goals as goal

pub returns-in-Err : goal.returns-in-Err
returns-in-Err c =
    let a = c.args in
    let why = c.in-Err.why in
    ask_refused a.g a.t.now a.front.now a.walk a.j a.out.now why (ask_unread a.g a.t.now why a.walk a.j a.out.now c.in-Err.ensures)
    c.refused.result c.refused.ensures

pub returns-then-out-need : goal.returns-then-out-need
returns-then-out-need c =
    let a = c.args in
    let w = c.in-Ok.w in
    let r = c.in-Ok.ensures in
    let q = walk_point a.walk in
    ask_refused a.g a.t.now a.front.now a.walk a.j a.out.now _ (ask_short a.g a.t.now a.front.now a.walk a.j a.out.now (read_sizes a.g a.t.now q w r) (read_lengths a.g a.t.now q w r) (read_point a.g a.t.now q w r) c.if-out-need.true)
    c.refused-then-out-need.result c.refused-then-out-need.ensures

pub returns-then-walk : goal.returns-then-walk
returns-then-walk c =
    let a = c.args in
    let r = c.in-Ok.ensures in
    let sizes = read_sizes a.g a.t.now (walk_point a.walk) c.in-Ok.w r in
    let lengths = read_lengths a.g a.t.now (walk_point a.walk) c.in-Ok.w r in
    let on = read_point a.g a.t.now (walk_point a.walk) c.in-Ok.w r in
    c.spoil_ask.ensures ∙ elim c.then-walk.branch [
      | then-walk-via-then-walk w ↦ ask_marked a.g a.t.now a.front.now a.walk a.j a.out.now sizes lengths on c.if-out-need.false w.if-walk.true
      | then-walk-via-else-walk+then-whole-walk w ↦ ask_beyond a.g a.t.now a.front.now a.walk a.j a.out.now sizes lengths on c.if-out-need.false w.if-walk.false (omega (arith, w.whole.ensures, w.if-whole-walk.true))
    ]

pub ask_rows-requires-clause-same_point : goal.ask_rows-requires-clause-same_point
ask_rows-requires-clause-same_point c = c.in-Ok.ensures.point

pub returns : goal.returns
returns c =
    let a = c.args in
    let w = c.in-Ok.w in
    let r = c.in-Ok.ensures in
    let q = walk_point a.walk in
    rw (r.grid, r.tables, r.point) at c.ask_rows.ensures
    ∙ ask_fine a.g a.t.now a.front.now a.walk a.j a.out.now (read_sizes a.g a.t.now q w r) (read_lengths a.g a.t.now q w r) (read_point a.g a.t.now q w r) c.if-out-need.false c.if-walk.false (omega (arith, c.whole.ensures, c.if-whole-walk.false))
