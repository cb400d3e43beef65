-- `walk::ready::Outward::take_item` meets its contract: a group and a tile are opened behind the first row, a footprint is handed out. Assumes nothing.
use mathlib.Core.Path.{◌≡◌, refl, ap}
use mathlib.Core.Bool.{Bool, not, ◌||◌}
use mathlib.Core.List.{List, map}
use Prim.Native.Nat.{ℕ, ◌+◌, ◌<◌}
use lib.Dec.{eqb, leb}
use lib.ListN.{length}
use Rattle.rules.specs.Sizes.{tile_count}
use Rattle.rules.specs.Tables.{good_runs}
use Rattle.rules.specs.Front.{rows}
use Rattle.rules.specs.Search.{allowed_runs}
use Rattle.rules.specs.Walk.{waiting_row, tile_brings, group_exists, group_brings, damage_if, bring, item_move}
use Rattle.rules.specs.declared.Direction.{Direction}
use Rattle.rules.specs.declared.Three.{Three}
use Rattle.rules.proofs.Memory.{length_rows}
use Rattle.walk.specs.Fill.{fill, Safe}
use Rattle.walk.specs.Groups.{item_rows}
use Rattle.walk.specs.Outward.{lent_by}
use Rattle.walk.specs.declared.ready.Outward.{Outward}
use Rattle.walk.proofs.Groups.{brings_alone}
use Rattle.walk.proofs.Moves.{opened_lost, opened_moved}
use native.Mathlib.Omega.{arith}
use Rattle.walk.proofs.ready.Outward.take_item.Goals.{in-Group+in_ok-f-in-Group, in-Tile+in_ok-f-in-Tile}
use Rattle.walk.proofs.ready.Outward.take_item.Goals as goal

-- a batch without rows, behind the first row, finds room
fresh_safe : (front batch : List ℕ) (head : ℕ) → head < length (rows front) → length batch ≡ 768 → Safe front batch (fill (head + 1) 0)
fresh_safe front batch head h b =
    let n = length_rows batch in record { room = omega arith; inside = omega arith; few = omega arith; wide = omega arith }

module _ (w : Outward) where
  abbrev no_group : Direction → ℕ → Bool
  no_group d level = eqb level 0 || not (group_exists w.g w.q d level)

  abbrev from_group : Direction → ℕ → List Three
  from_group d level = item_rows w.g w.q (group_brings w.g w.q d level)

  abbrev bad_tile : ℕ → Bool
  bad_tile tile = leb (tile_count w.g) tile || not (good_runs w.g (lent_by w) (allowed_runs w.g w.q tile))

  abbrev from_tile : ℕ → List Three
  from_tile tile = map (waiting_row w.g w.reg.now w.q) (tile_brings w.g (lent_by w) w.q tile)

pub overflow_add-fresh : goal.overflow_add-fresh
overflow_add-fresh c = let p = c.requires.head_there.0 in let n = length_rows c.args.front.now in let g = c.well_formed in omega arith

pub open_group-requires : goal.open_group-requires
open_group-requires c = record { safe = fresh_safe c.args.front.now c.args.batch.now c.args.s.head c.requires.head_there.0 c.told-batch }

pub open_tile-requires : goal.open_tile-requires
open_tile-requires c = record { safe = fresh_safe c.args.front.now c.args.batch.now c.args.s.head c.requires.head_there.0 c.told-batch }

pub take_footprint-requires : goal.take_footprint-requires
take_footprint-requires c =
    let p = c.requires.head_there in let n = length_rows c.args.front.now in let g = c.well_formed in (omega arith, p.1)

pub returns-in_err-f-in-Group : goal.returns-in_err-f-in-Group
unfolding item_move
returns-in_err-f-in-Group c =
    let a = c.args in
    let w = a.self.now in
    let i = c.in-Group in
    rw (c.from_residual.ensures, i.is)
    (opened_lost a.front.now a.batch.now a.s (no_group w i.d i.level) (from_group w i.d i.level) c.requires.head_there.0 _
    (ap (λ (l : List Three). damage_if (no_group w i.d i.level) (bring l)) (brings_alone w.g w.reg.now w.q i.d i.level)) c.in_err-f-in-Group.ensures a.out.now)

pub returns-in_err-f-in-Tile : goal.returns-in_err-f-in-Tile
unfolding item_move
returns-in_err-f-in-Tile c =
    let a = c.args in
    let w = a.self.now in
    let i = c.in-Tile in
    rw (c.from_residual-in_err-f-in-Tile.ensures, i.is)
    (opened_lost a.front.now a.batch.now a.s (bad_tile w i.tile) (from_tile w i.tile) c.requires.head_there.0 _ refl c.in_err-f-in-Tile.ensures a.out.now)

pub returns : goal.returns
unfolding item_move
returns c =
    let a = c.args in
    let w = a.self.now in
    let m = c.match-row in
    let flush = c.flush in
    elim c.match-row.branch [
      | in-Group+in_ok-f-in-Group p ↦
          let i = p.in-Group in
          rw i.is
          (opened_moved a.front.now a.batch.now a.s (no_group w i.d i.level) (from_group w i.d i.level) c.requires.head_there.0 _
          (ap (λ (l : List Three). damage_if (no_group w i.d i.level) (bring l)) (brings_alone w.g w.reg.now w.q i.d i.level))
          m.front m.batch flush.new.front m.f (rw (p.front-is, p.batch-is, p.f-is) p.in_ok-f-in-Group.ensures) flush.result flush.ensures.0 flush.ensures.1 a.out.now)
      | in-Tile+in_ok-f-in-Tile p ↦
          let i = p.in-Tile in
          rw i.is
          (opened_moved a.front.now a.batch.now a.s (bad_tile w i.tile) (from_tile w i.tile) c.requires.head_there.0 _ refl
          m.front m.batch flush.new.front m.f (rw (p.front-is, p.batch-is, p.f-is) p.in_ok-f-in-Tile.ensures) flush.result flush.ensures.0 flush.ensures.1 a.out.now)
    ]
