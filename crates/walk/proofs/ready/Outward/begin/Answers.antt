-- `walk::ready::Outward::begin` meets its contract: the refusals in their order, then the rows. Assumes nothing.
use mathlib.Core.Path.{◌≡◌, sym, ap, ◌∙◌}
use mathlib.Core.Bool.{false}
use Prim.Native.Nat.{ℕ}
use Rattle.std.specs.Prelude.{Some, None}
use Rattle.std.proofs.lemmas.Result.{err_from_is_err_and}
use Rattle.rules.specs.Refusals.{refuse}
use Rattle.rules.specs.Search.{allowed_runs}
use Rattle.rules.specs.Walk.{bad_start}
use Rattle.rules.specs.declared.Refusal.TheVariants.{Damage, Room}
use Rattle.walk.specs.Outward.{lent_by}
use Rattle.walk.specs.Reading.{Counted}
use Rattle.walk.proofs.Readiness.{placed_of}
use Rattle.walk.proofs.Starting.{none_told, bad_runs, too_many, good_start, start_fits, start_damage, start_short, start_passes, start_refused, start_done}
use native.Mathlib.Omega.{arith}
use Rattle.walk.proofs.ready.Outward.begin.Goals.{Else-count, In_ok-count}
use Rattle.walk.proofs.ready.Outward.begin.Goals as goal

pub returns-in_err-count : goal.returns-in_err-count
returns-in_err-count c =
    let w = c.args.self.now in
    let front = c.args.front.now in
    let tile = c.tile_of-tile in
    let p = err_from_is_err_and c.from_residual.result c.from_residual.ensures.1 in
    let none : c.judge_tile.result ≡ None = c.in_err-count.ensures.ok_part in
    rw (p.1, p.2, none_told c.judge_tile.result _ Damage none c.in_err-count.ensures.value)
    (start_refused w.g (lent_by w) w.q front Damage
    (start_damage w.g (lent_by w) w.q front w.sizes w.lengths w.point (bad_runs w.g w.q (placed_of w) (lent_by w) tile.result tile.ensures.0 (rw none at c.judge_tile.ensures))))

-- so many are counted
counted : (c : In_ok-count) → Counted c.args.self.now.g (lent_by c.args.self.now) (allowed_runs c.args.self.now.g c.args.self.now.q c.tile_of-tile.result) 16 c.in_ok-count.count
counted c = let some : c.judge_tile.result ≡ Some c.in_ok-count.count = c.in_ok-count.ensures.ok_part in rw some at c.judge_tile.ensures

pub returns-then-count : goal.returns-then-count
returns-then-count c =
    let w = c.args.self.now in
    let front = c.args.front.now in
    let tile = c.tile_of-tile in
    start_refused w.g (lent_by w) w.q front Damage
    (start_damage w.g (lent_by w) w.q front w.sizes w.lengths w.point
    (too_many w.g w.q (placed_of w) (lent_by w) tile.result tile.ensures.0 c.in_ok-count.count (counted (goal.at.returns-then-count c).In_ok-count) (omega (arith, c.if-count.true, c.count.ensures))))

-- no damage
good : (c : Else-count) → bad_start c.args.self.now.g (lent_by c.args.self.now) c.args.self.now.q ≡ false
good c =
    let w = c.args.self.now in
    let tile = c.tile_of-tile in
    good_start w.g w.q (placed_of w) (lent_by w) tile.result tile.ensures.0 c.in_ok-count.count (rw (c.in_ok-count.ensures.ok_part) at c.judge_tile.ensures) (omega (arith, c.if-count.false, c.count.ensures))

pub returns-then-front-need : goal.returns-then-front-need
returns-then-front-need c =
    let w = c.args.self.now in
    let front = c.args.front.now in
    let need = c.start_room-need in
    start_refused w.g (lent_by w) w.q front (Room need.result)
    (start_short w.g (lent_by w) w.q front w.sizes w.lengths w.point (good (goal.at.returns-then-front-need c).Else-count) (omega (arith, c.if-front-need.true, need.ensures))
    ∙ ap (λ (k : ℕ). refuse (Room k)) (sym need.ensures))

pub lay_start-requires-clause-room : goal.lay_start-requires-clause-room
lay_start-requires-clause-room c =
    let n = start_fits c.args.self.now.g c.args.self.now.reg.now c.args.front.now c.in_ok-count.count (omega (arith, c.if-count.false, c.count.ensures)) (omega (arith, c.if-front-need.false, c.start_room-need.ensures)) in
    let m = (counted (goal.at.lay_start-requires-clause-room c).In_ok-count).counts in omega arith

pub returns : goal.returns
returns c =
    let w = c.args.self.now in
    let front = c.args.front.now in
    let lay = c.lay_start in
    start_done w.g (lent_by w) w.q front
    (start_passes w.g (lent_by w) w.q front w.sizes w.lengths w.point (good (goal.at.returns c).Else-count) (omega (arith, c.if-front-need.false, c.start_room-need.ensures)))
    lay.new.front lay.result lay.ensures.0 lay.ensures.1
