-- `walk::ready::Outward::ask_rows` meets its contract. Assumes nothing.
use Rattle.rules.specs.Front.{rows}
use Rattle.front.proofs.Callers.{last_lifted}
use Rattle.walk.proofs.Asking.{rows_spoiled, rows_given}
use Rattle.walk.specs.Outward.{lent_by}
use Rattle.walk.proofs.ready.Outward.ask_rows.Goals as goal

pub returns-in_default : goal.returns-in_default
returns-in_default c =
    let a = c.args in
    let lift = c.lift-from in
    let run = c.run in
    let spoil = c.spoil_ask in
    let lent = lent_by a.self.now in
    rw c.requires.same_point
    (rows_spoiled a.self.now.g lent a.walk a.front.now a.out.now
    lift.new.front run.new.front run.new.out lift.result a.j lift.auto.front run.auto.front run.auto.out
    (last_lifted (rows a.front.now) (rows lift.new.front) lift.result a.walk.waiting lift.ensures.0 lift.ensures.1) c.requires.room.1
    (rw c.requires.same_point at c.in_default.ensures) spoil.new.front spoil.new.out spoil.result spoil.ensures)

pub returns : goal.returns
returns c =
    let a = c.args in
    let lift = c.lift-from in
    let run = c.run in
    let settle = c.settle-left in
    let lent = lent_by a.self.now in
    rw c.requires.same_point
    (rows_given a.self.now.g lent a.walk a.front.now a.out.now
    lift.new.front run.new.front run.new.out lift.result a.j lift.auto.front run.auto.front run.auto.out
    (last_lifted (rows a.front.now) (rows lift.new.front) lift.result a.walk.waiting lift.ensures.0 lift.ensures.1) c.requires.room.1
    c.in-Some.s (rw c.requires.same_point at c.in-Some.ensures) settle.new.front settle.result settle.ensures.0 settle.ensures.1 c.walk_at.result (rw c.requires.same_point at c.walk_at.ensures) c.done.result c.done.ensures)
