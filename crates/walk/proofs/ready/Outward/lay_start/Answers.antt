-- `walk::ready::Outward::lay_start` meets its contract. Assumes nothing.
use mathlib.Core.Path.{◌≡◌, ap, ap₂, ◌∙◌}
use Prim.Native.Nat.{ℕ, ◌+◌, ◌≤◌}
use lib.ListN.{length, replicate, length-replicate}
use Rattle.laws.specs.Lists.{each}
use Rattle.rules.specs.Tables.{run_at}
use Rattle.rules.specs.Search.{allowed_runs}
use Rattle.rules.specs.Front.{laid}
use Rattle.rules.proofs.Memory.{length_rows}
use Rattle.walk.proofs.Starting.{start_stands, kept_some, kept_waits, held_is}
use native.Mathlib.Omega.{arith}
use Rattle.walk.specs.Outward.{lent_by}
use Rattle.walk.proofs.Readiness.{placed_of}
use Rattle.walk.proofs.ready.Outward.lay_start.Goals as goal

pub add_start-requires-clause-safe : goal.add_start-requires-clause-safe
add_start-requires-clause-safe c =
    let n = length_rows (replicate 768 0) in
    let l = length-replicate {A = ℕ} 768 0 in
    let w = c.whole.ensures in record { room = omega arith; inside = omega arith; few = omega arith; wide = omega arith }

pub unwrap-f-requires : goal.unwrap-f-requires
unwrap-f-requires c =
    let a = c.args in
    let whole = c.whole in
    let add = c.add_start in
    let pre = c.requires in
    let lent = lent_by a.self.now in
    let room : length (each (run_at lent) (allowed_runs a.self.now.g a.self.now.q a.tile)) + 4 ≤ whole.result = omega (arith, pre.room, whole.ensures) in
    kept_some add.new.front add.new.batch add.result _ add.ensures _ _
    (start_stands a.self.now.g a.self.now.q lent a.tile (placed_of a.self.now) pre.own_tile.0 a.front.now (replicate 768 0) whole.result whole.ensures room)

pub returns : goal.returns
returns c =
    let a = c.args in
    let whole = c.whole in
    let add = c.add_start in
    let flush = c.flush-head in
    let settle = c.settle in
    let pre = c.requires in
    let lent = lent_by a.self.now in
    let room : length (each (run_at lent) (allowed_runs a.self.now.g a.self.now.q a.tile)) + 4 ≤ whole.result = omega (arith, pre.room, whole.ensures) in
    let held = held_is add.new.front add.new.batch add.result c.unwrap-f.result _ add.ensures c.unwrap-f.ensures in
    let e = held.is ∙ start_stands a.self.now.g a.self.now.q lent a.tile (placed_of a.self.now) pre.own_tile.0 a.front.now (replicate 768 0) whole.result whole.ensures room in
    let w = flush.ensures.1 ∙ kept_waits add.new.front add.new.batch c.unwrap-f.result _ _ e in
    let n : length flush.new.front ≡ length a.front.now = flush.auto.front ∙ add.auto.front in
    (settle.ensures.1 ∙ ap₂ laid n w, settle.ensures.0 ∙ ap length w)
