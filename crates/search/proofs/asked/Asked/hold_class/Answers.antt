-- `search::asked::Asked::hold_class` meets its contract: the mask says whether the class is allowed. Assumes nothing.
use mathlib.Core.Path.{sym, ◌∙◌}
use Prim.Native.Nat.{◌+◌, ◌*◌}
use Rattle.rules.specs.Register.{bad_register}
use Rattle.rules.specs.Tables.{bad_lengths, bad_starts}
use Rattle.laws.proofs.Tests.{neither}
use Rattle.search.proofs.Classes.{starts_stand, hold_none, hold_one}
use Rattle.search.proofs.asked.Asked.hold_class.Goals as goal

pub returns-then-not-is_on : goal.returns-then-not-is_on
returns-then-not-is_on form c =
    let s = c.args.self.now in
    hold_none s.g s.t s.q s.r (16 * c.args.tile + c.args.class)
    (sym (c.requires.allows.rule c.args.class c.requires.on_grid.1) ∙ sym c.is_on.ensures ∙ c.if-not-is_on.true)
    c.args.held c.requires.lies (form.L.Form.numbers c.args.lent.now)

pub hold-requires-clause-has_ends : goal.hold-requires-clause-has_ends
unfolding bad_lengths
hold-requires-clause-has_ends form c =
    let s = c.args.self.now in
    starts_stand s.g s.t.starts (neither (bad_register s.t.reg) (bad_starts s.g s.t.starts) s.lengths).1 c.args.tile c.args.class c.requires.on_grid.0 c.requires.on_grid.1

pub returns : goal.returns
returns form c =
    let s = c.args.self.now in
    hold_one s.g s.t s.q s.r (16 * c.args.tile + c.args.class)
    (sym (c.requires.allows.rule c.args.class c.requires.on_grid.1) ∙ sym c.is_on.ensures ∙ c.if-not-is_on.false)
    c.args.held c.hold.result (form.L.Form.numbers c.args.lent.now) _ c.hold.ensures
