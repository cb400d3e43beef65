-- `walk::ready::Outward::new` meets its contract: the refusals in their order, then the tables as they are lent. Assumes nothing.
use mathlib.Core.Path.{◌≡◌, refl, sym, ap, ◌∙◌}
use mathlib.Core.Bool.{false}
use Rattle.rules.specs.Sizes.{bad_sizes}
use Rattle.rules.specs.Tables.{tables, bad_lengths}
use Rattle.walk.proofs.Near.{lengths_alone}
use Rattle.walk.proofs.ready.Outward.new.Goals.{After-bad_lengths, Else-bad_sizes}
use Rattle.walk.proofs.ready.Outward.new.Goals as goal

sizes : (c : Else-bad_sizes) → bad_sizes c.args.g ≡ false
sizes c = sym c.bad_sizes.ensures ∙ c.if-bad_sizes.false

-- the entries do not decide
judged : (c : After-bad_lengths) → c.bad_lengths.result ≡ bad_lengths c.args.g (tables c.t.inside.reg.now c.t.inside.starts.now c.t.inside.entries.now)
judged c = c.bad_lengths.ensures ∙ lengths_alone c.args.g c.t.inside.reg.now c.t.inside.starts.now c.t.inside.entries.now

pub returns-then-bad_lengths : goal.returns-then-bad_lengths
returns-then-bad_lengths c =
    rw (sizes (goal.at.returns-then-bad_lengths c).Else-bad_sizes, sym (ap (bad_lengths c.args.g) c.t.view_is) ∙ sym (judged (goal.at.returns-then-bad_lengths c).After-bad_lengths) ∙ c.if-bad_lengths.true) refl

pub returns-then-bad_point : goal.returns-then-bad_point
returns-then-bad_point c =
    rw (sizes (goal.at.returns-then-bad_point c).Else-bad_sizes, sym (ap (bad_lengths c.args.g) c.t.view_is) ∙ sym (judged (goal.at.returns-then-bad_point c).After-bad_lengths) ∙ c.if-bad_lengths.false, sym c.bad_point.ensures ∙ c.if-bad_point.true) refl

pub invariant_of-result-clause-lengths : goal.invariant_of-result-clause-lengths
invariant_of-result-clause-lengths c = sym (judged (goal.at.invariant_of-result-clause-lengths c).After-bad_lengths) ∙ c.if-bad_lengths.false
