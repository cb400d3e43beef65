-- `walk::ready::Outward::run` meets its contract: what stands, worked on, is the whole; the measure is the weight of the waiting rows. Assumes nothing.
use mathlib.Core.Path.{sym, ◌∙◌}
use Prim.Native.Nat.{◌<◌}
use lib.ListN.{length}
use Rattle.rules.specs.Front.{rows}
use Rattle.walk.proofs.Adding.{same_rows}
use Rattle.walk.proofs.Runs.{run_all, run_step, run_falls, run_fails, run_end_law, rests_enough, rests_empty}
use native.Mathlib.Omega.{arith}
use Rattle.walk.proofs.ready.Outward.run.Goals.{Then-s-n}
use Rattle.walk.specs.Outward.{lent_by}
use Rattle.walk.proofs.Readiness.{placed_of}
use Rattle.walk.proofs.ready.Outward.run.Goals as goal

-- a row waits
some : (c : Then-s-n) → c.loop-s.s.head < length (rows c.loop-s.front)
some c = let i = c.loop-s.invariant.1 in let t = c.if-s-n.true in omega arith

pub loop-s-init : goal.loop-s-init
loop-s-init c =
    let a = c.args in
    (run_all a.self.now.g (lent_by a.self.now) a.self.now.q a.front.now a.out.now a.head a.j c.requires.room.0, c.whole-n.ensures)

pub take_one-requires : goal.take_one-requires
take_one-requires c =
    let loop = c.loop-s in
    let room = c.requires.room in
    let o = loop.invariant.0.out_size in
    let t = c.loop-s-test.true in
    record { head_there = (some (goal.at.take_one-requires c).Then-s-n, omega arith) }

pub returns-in_err-s : goal.returns-in_err-s
returns-in_err-s c =
    let a = c.args in
    let loop = c.loop-s in
    let lent = lent_by a.self.now in
    rw c.from_residual.ensures
    (run_fails a.self.now.g lent a.self.now.q a.front.now a.out.now a.head a.j loop.front loop.out loop.s loop.invariant.0 c.loop-s-test.true
    (some (goal.at.returns-in_err-s c).Then-s-n) c.take_one.new.out c.in_err-s.ensures)

pub loop-s-smaller : goal.loop-s-smaller
loop-s-smaller c =
    let a = c.args in
    let loop = c.loop-s in
    let take = c.take_one in
    let lent = lent_by a.self.now in
    run_falls a.self.now.g lent a.self.now.q a.front.now a.out.now a.head a.j loop.front loop.out loop.s loop.invariant.0 c.loop-s-test.true
    (some (goal.at.loop-s-smaller c).Then-s-n) take.new.front take.new.out c.in_ok-s.s take.auto.front take.auto.out c.in_ok-s.ensures (placed_of c.args.self.now)

pub loop-s-preserved : goal.loop-s-preserved
loop-s-preserved c =
    let a = c.args in
    let loop = c.loop-s in
    let take = c.take_one in
    let lent = lent_by a.self.now in (
      run_step a.self.now.g lent a.self.now.q a.front.now a.out.now a.head a.j loop.front loop.out loop.s loop.invariant.0 c.loop-s-test.true
          (some (goal.at.loop-s-preserved c).Then-s-n) take.new.front take.new.out c.in_ok-s.s take.auto.front take.auto.out c.in_ok-s.ensures,
      loop.invariant.1 ∙ sym (same_rows take.new.front loop.front take.auto.front),
    )

pub returns-else-s-n : goal.returns-else-s-n
returns-else-s-n c =
    let a = c.args in
    let loop = c.loop-s in
    let i = loop.invariant.1 in
    run_end_law a.self.now.g (lent_by a.self.now) a.self.now.q a.front.now a.out.now a.head a.j loop.front loop.out loop.s loop.invariant.0
    (rests_empty loop.front loop.out a.j loop.s (let t = c.if-s-n.false in omega arith))

pub returns-after-loop-s : goal.returns-after-loop-s
returns-after-loop-s c =
    let a = c.args in
    let loop = c.loop-s in
    run_end_law a.self.now.g (lent_by a.self.now) a.self.now.q a.front.now a.out.now a.head a.j loop.front loop.out loop.s loop.invariant.0
    (rests_enough loop.front loop.out a.j loop.s c.loop-s-test.false)
