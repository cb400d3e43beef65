-- `walk::ready::Outward::open_group` meets its contract. Assumes nothing.
use mathlib.Core.Path.{◌≡◌, sym, ap, ◌∙◌}
use mathlib.Core.Bool.{not, ◌||◌}
use mathlib.Core.List.{List, ◌++◌, map}
use Prim.Native.Nat.{ℕ, ◌+◌}
use lib.Dec.{eqb}
use Rattle.rules.specs.Walk.{group_if, group_exists, group_brings}
use Rattle.rules.proofs.InRange.{group_in_range}
use Rattle.rules.specs.declared.Item.TheVariants.{Tile}
use Rattle.walk.specs.Fill.{Got, stands, add_all, brought}
use Rattle.walk.specs.Groups.{item_rows}
use Rattle.walk.proofs.Adding.{refilled}
use Rattle.walk.proofs.Bringing.{add_all_lost, add_all_append}
use Rattle.walk.proofs.Groups.{lies_on, lies_tiles, group_brings_law}
use native.Mathlib.Omega.{arith}
use Rattle.laws.specs.Lines.{line}
use Rattle.walk.proofs.ready.Outward.open_group.Goals.{After-group_tiles}
use Rattle.walk.proofs.Readiness.{placed_of}
use Rattle.walk.proofs.ready.Outward.open_group.Goals as goal

-- the tiles' rows, with those of the next group, are what the group brings

pub add_tiles-requires-clause-on_grid : goal.add_tiles-requires-clause-on_grid
add_tiles-requires-clause-on_grid c =
    let a = c.args in
    lies_on a.self.now.g a.self.now.q a.d a.level (placed_of a.self.now) (sym c.group_exists.ensures ∙ c.if-not-group_exists.false) c.group_tiles.result c.group_tiles.ensures

pub overflow_add-level : goal.overflow_add-level
overflow_add-level c =
    let a = c.args in
    let placed = (placed_of a.self.now) in
    omega (arith, group_in_range a.self.now.g a.self.now.q a.d a.level placed.sizes placed.point (sym c.group_exists.ensures ∙ c.if-not-group_exists.false))

brings : (c : After-group_tiles) → let a = c.args in let s = stands a.front.now a.batch.now a.f in let r = c.group_tiles.result in
    add_all (add_all s (item_rows a.self.now.g a.self.now.q (map Tile (line r.start r.apart r.many)))) (item_rows a.self.now.g a.self.now.q (group_if a.self.now.g a.self.now.q (a.level + 1) a.d))
    ≡ brought s (eqb a.level 0 || not (group_exists a.self.now.g a.self.now.q a.d a.level)) (item_rows a.self.now.g a.self.now.q (group_brings a.self.now.g a.self.now.q a.d a.level))
brings c =
    let a = c.args in
    let e = sym c.group_exists.ensures ∙ c.if-not-group_exists.false in
    let s = stands a.front.now a.batch.now a.f in
    let next = item_rows a.self.now.g a.self.now.q (group_if a.self.now.g a.self.now.q (a.level + 1) a.d) in
    sym (add_all_append s _ next)
    ∙ ap (λ (l : List ℕ). add_all s (item_rows a.self.now.g a.self.now.q (map Tile l) ++ next)) (lies_tiles a.self.now.g a.self.now.q a.d a.level (placed_of a.self.now) e c.group_tiles.result c.group_tiles.ensures)
    ∙ group_brings_law a.self.now.g a.self.now.q a.d a.level s c.if-level-eq0.false e

pub returns-in_err-f : goal.returns-in_err-f
returns-in_err-f c =
    let a = c.args in
    let next = item_rows a.self.now.g a.self.now.q (group_if a.self.now.g a.self.now.q (a.level + 1) a.d) in
    rw c.from_residual.ensures
    (sym (add_all_lost next) ∙ ap (λ (x : Got). add_all x next) c.in_err-f.ensures ∙ brings (goal.at.returns-in_err-f c).After-group_tiles)

pub returns : goal.returns
returns c =
    let a = c.args in
    let add = c.add_group in
    let next = item_rows a.self.now.g a.self.now.q (group_if a.self.now.g a.self.now.q (a.level + 1) a.d) in
    refilled add.new.front add.new.batch add.result _ _ add.ensures
    (ap (λ (x : Got). add_all x next) c.in_ok-f.ensures.is ∙ brings (goal.at.returns c).After-group_tiles)
