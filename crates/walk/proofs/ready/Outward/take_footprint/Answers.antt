-- `walk::ready::Outward::take_footprint` meets its contract. Assumes nothing.
use mathlib.Core.Path.{sym, ◌∙◌}
use Rattle.walk.proofs.Moves.{hand_bad, hand_fine}
use Rattle.walk.specs.Outward.{lent_by}
use Rattle.walk.proofs.ready.Outward.take_footprint.Goals as goal

pub returns-then-bad_entry : goal.returns-then-bad_entry
returns-then-bad_entry c =
    let a = c.args in
    λ front lt. hand_bad a.self.now.g (lent_by a.self.now) a.self.now.q a.square a.i front a.out.now a.s (sym c.bad_entry.ensures ∙ c.if-bad_entry.true)

pub returns : goal.returns
returns c =
    let a = c.args in
    λ front lt. hand_fine a.self.now.g (lent_by a.self.now) a.self.now.q a.square a.i front a.out.now a.s lt (sym c.bad_entry.ensures ∙ c.if-bad_entry.false) c.requires.1 c.give.new.out c.give.ensures
