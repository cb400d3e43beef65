-- `walk::ready::Outward::add_group` meets its contract. Assumes nothing.
use mathlib.Core.Path.{sym, ap, ◌∙◌}
use mathlib.Core.List.{List}
use Rattle.rules.specs.declared.Item.{Item}
use Rattle.walk.specs.Fill.{add_to, add_all, stands}
use Rattle.walk.specs.Groups.{item_rows}
use Rattle.walk.proofs.Adding.{refilled}
use Rattle.walk.proofs.Groups.{group_yes, group_no}
use Rattle.walk.proofs.ready.Outward.add_group.Goals as goal

pub returns-then-not-group_exists : goal.returns-then-not-group_exists
unfolding add_all
returns-then-not-group_exists c =
    let a = c.args in
    let e = group_no a.self.now.g a.self.now.q a.d a.level (sym c.group_exists.ensures ∙ c.if-not-group_exists.true) in
    let s = stands a.front.now a.batch.now a.f in
    record { safe = c.requires.safe; is = ap (λ (l : List Item). add_all s (item_rows a.self.now.g a.self.now.q l)) (sym e) }

pub returns : goal.returns
unfolding add_all
returns c =
    let a = c.args in
    let add = c.add in
    let e = group_yes a.self.now.g a.self.now.q a.d a.level (sym c.group_exists.ensures ∙ c.if-not-group_exists.false) in
    let s = stands a.front.now a.batch.now a.f in
    refilled add.new.front add.new.batch add.result (add_to s c.group_row.result) _ add.ensures
    (ap (add_to s) c.group_row.ensures ∙ ap (λ (l : List Item). add_all s (item_rows a.self.now.g a.self.now.q l)) (sym e))
