-- `probes::search_all` meets its contract: `Settled` says what the calls make together. Assumes nothing.
use native.Mathlib.Omega.{arith}
use Rattle.std.proofs.lemmas.Result.{err_from_is_err_and}
use Rattle.probes.proofs.Settled.{judged_err, pass_err, room_err, copied, again}
use Rattle.probes.proofs.search_all.Goals as goal

pub returns-in_err-judge : goal.returns-in_err-judge
returns-in_err-judge c =
    let a = c.args in
    let q = err_from_is_err_and c.from_residual.result c.from_residual.ensures.1 in
    rw (q.1, q.2) (judged_err a.g a.t.now a.probes.now a.out.now a.ends.now _ c.judge.ensures.judged _ c.in_err-judge.was)

pub returns-in_err-total : goal.returns-in_err-total
returns-in_err-total c =
    let a = c.args in
    let q = err_from_is_err_and c.from_residual-in_err-total.result c.from_residual-in_err-total.ensures.1 in
    rw (q.1, q.2)
    (pass_err a.g a.t.now a.probes.now a.out.now a.ends.now _ c.judge.ensures.judged _ c.in_ok-judge.was _ _ _ _ _ c.list_all.ensures _ c.in_err-total.was)

pub returns-in_err-room : goal.returns-in_err-room
returns-in_err-room c =
    let a = c.args in
    let q = err_from_is_err_and c.from_residual-in_err-room.result c.from_residual-in_err-room.ensures.1 in
    rw (q.1, q.2)
    (room_err a.g a.t.now a.probes.now a.out.now a.ends.now _ c.judge.ensures.judged _ c.in_ok-judge.was _ _ _ _ _ c.list_all.ensures _ c.in_ok-total.was
    _ c.room.ensures.judged _ c.in_err-room.was)

pub returns-then-count-le-KEPT_ENDS : goal.returns-then-count-le-KEPT_ENDS
returns-then-count-le-KEPT_ENDS c =
    let a = c.args in
    copied a.g a.t.now a.probes.now a.out.now a.ends.now _ c.judge.ensures.judged _ c.in_ok-judge.was _ _ _ _ _ c.list_all.ensures _ c.in_ok-total.was
    c.in_ok-room.ensures.fits (omega arith) (omega arith) _ _ c.copy_from_slice.ensures.after c.copy_from_slice-then-count-le-KEPT_ENDS.ensures.after

pub returns : goal.returns
returns c =
    let a = c.args in
    again a.g a.t.now a.probes.now a.out.now a.ends.now _ c.judge.ensures.judged _ c.in_ok-judge.was _ _ _ _ _ c.list_all.ensures _ c.in_ok-total.was
    c.in_ok-room.ensures.fits _ _ _ c.list_all-2.ensures
