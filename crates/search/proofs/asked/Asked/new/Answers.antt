-- `search::asked::Asked::new` meets its contract: each refusal where its test passes, else each test's fact. Assumes nothing.
use mathlib.Core.Path.{◌≡◌, sym, ap, ◌∙◌}
use mathlib.Core.Bool.{false, ◌||◌}
use Rattle.rules.specs.Sizes.{bad_sizes, bad_point}
use Rattle.rules.specs.Register.{bad_register}
use Rattle.rules.specs.Tables.{Tables, bad_starts, bad_lengths}
use Rattle.search.proofs.Verdicts.{refused_sizes, refused_lengths, refused_place, refused_radius}
-- the tests, said of what is asked
use Rattle.search.proofs.asked.Asked.new.Goals.{After-bad_lengths, Else-bad_point, Else-bad_sizes}
use Rattle.search.proofs.asked.Asked.new.Given as given
use Rattle.search.proofs.asked.Asked.new.Goals as goal

sizes : (form : given.Over) (c : Else-bad_sizes form) → bad_sizes c.args.g ≡ false
sizes form c = sym c.bad_sizes.ensures ∙ c.if-bad_sizes.false

lengths : (form : given.Over) (c : After-bad_lengths form) → bad_lengths c.args.g c.args.t.now ≡ c.bad_lengths.result
unfolding bad_lengths
lengths form c = ap (λ (t : Tables). bad_register t.reg || bad_starts c.args.g t.starts) (sym c.t.view_is) ∙ sym c.bad_lengths.ensures

place : (form : given.Over) (c : Else-bad_point form) → bad_point c.args.g c.args.q ≡ false
place form c = sym c.bad_point.ensures ∙ c.if-bad_point.false

pub returns-then-bad_sizes : goal.returns-then-bad_sizes
returns-then-bad_sizes form c = refused_sizes _ _ _ _ (sym c.bad_sizes.ensures ∙ c.if-bad_sizes.true)

pub returns-then-bad_lengths : goal.returns-then-bad_lengths
returns-then-bad_lengths form c =
    let w = goal.at.returns-then-bad_lengths form c in
    refused_lengths _ _ _ _ (sizes form w.Else-bad_sizes) (lengths form w.After-bad_lengths ∙ c.if-bad_lengths.true)

pub returns-then-bad_point : goal.returns-then-bad_point
returns-then-bad_point form c =
    let w = goal.at.returns-then-bad_point form c in
    refused_place _ _ _ _ (sizes form w.Else-bad_sizes) (lengths form w.After-bad_lengths ∙ c.if-bad_lengths.false) (sym c.bad_point.ensures ∙ c.if-bad_point.true)

pub returns-then-r-gt-MOST_RADIUS : goal.returns-then-r-gt-MOST_RADIUS
returns-then-r-gt-MOST_RADIUS form c =
    let w = goal.at.returns-then-r-gt-MOST_RADIUS form c in
    refused_radius _ _ _ _ (sizes form w.Else-bad_sizes) (lengths form w.After-bad_lengths ∙ c.if-bad_lengths.false) (place form w.Else-bad_point) c.if-r-gt-MOST_RADIUS.true

pub invariant_of-result-clause-sizes : goal.invariant_of-result-clause-sizes
invariant_of-result-clause-sizes form c = sizes form (goal.at.invariant_of-result-clause-sizes form c).Else-bad_sizes

pub invariant_of-result-clause-lengths : goal.invariant_of-result-clause-lengths
invariant_of-result-clause-lengths form c = ap (bad_lengths c.args.g) c.t.view_is ∙ lengths form (goal.at.invariant_of-result-clause-lengths form c).After-bad_lengths ∙ c.if-bad_lengths.false

pub invariant_of-result-clause-place : goal.invariant_of-result-clause-place
invariant_of-result-clause-place form c = place form (goal.at.invariant_of-result-clause-place form c).Else-bad_point
