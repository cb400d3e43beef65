-- `index::judged::Judged::of` meets its contract: refusals 1, 2 and 3 in this order, and what holds where none is met. Assumes nothing.
use mathlib.Core.Path.{◌≡◌, refl, sym, ◌∙◌}
use mathlib.Core.Bool.{false}
use mathlib.Core.List.{[]}
use native.Mathlib.Omega.{arith}
use Rattle.rules.specs.Sizes.{bad_sizes}
use Rattle.rules.specs.Tables.{tables, bad_lengths}
use Rattle.rules.specs.Refusals.{pass}
use Rattle.rules.specs.Build.{register_verdict}
use Rattle.rules.proofs.Good.{good_sizes, few_footprints}
use Rattle.index.proofs.Verdict.{found_few, refused_footprint, refused_nothing, accepted, accepted_lies, starts_stand}
use Rattle.index.proofs.judged.Judged.of.Given as given
use Rattle.index.proofs.judged.Judged.of.Goals.{Else-bad_lengths, In_default}
use Rattle.index.proofs.judged.Judged.of.Goals as goal

sizes : (form : given.Over) (c : Else-bad_lengths form) → bad_sizes c.args.g ≡ false
sizes form c = sym c.bad_sizes.ensures ∙ c.if-bad_sizes.false

lengths : (form : given.Over) (c : Else-bad_lengths form) → bad_lengths c.args.g (tables (form.F.Form.numbers c.args.reg.now) (form.F.Form.numbers c.args.starts.now) []) ≡ false
lengths form c = sym c.bad_lengths.ensures ∙ c.if-bad_lengths.false

pub returns-then-bad_sizes-clause-judges : goal.returns-then-bad_sizes-clause-judges
unfolding register_verdict
returns-then-bad_sizes-clause-judges form c = rw (sym c.bad_sizes.ensures ∙ c.if-bad_sizes.true)

pub returns-then-bad_lengths-clause-judges : goal.returns-then-bad_lengths-clause-judges
unfolding register_verdict
returns-then-bad_lengths-clause-judges form c = rw (sym c.bad_sizes.ensures ∙ c.if-bad_sizes.false, sym c.bad_lengths.ensures ∙ c.if-bad_lengths.true)

pub overflow_cast-result : goal.overflow_cast-result
overflow_cast-result form c =
    let at = (goal.at.overflow_cast-result form c).Else-bad_lengths in
    omega (arith, found_few c.args.g (form.F.Form.numbers c.args.reg.now) (form.F.Form.numbers c.args.starts.now) (sizes form at) (lengths form at) c.in-Some.i (sym c.in-Some.is ∙ c.first_bad.ensures))

pub returns-in-Some-clause-judges : goal.returns-in-Some-clause-judges
returns-in-Some-clause-judges form c =
    let at = (goal.at.returns-in-Some-clause-judges form c).Else-bad_lengths in
    refused_footprint c.args.g (form.F.Form.numbers c.args.reg.now) (form.F.Form.numbers c.args.starts.now) (sizes form at) (lengths form at) c.in-Some.i pass (sym c.in-Some.is ∙ c.first_bad.ensures)

passed : (form : given.Over) (c : In_default form) → register_verdict c.args.g (form.F.Form.numbers c.args.reg.now) (form.F.Form.numbers c.args.starts.now) pass ≡ pass
passed form c =
    sym (refused_nothing c.args.g (form.F.Form.numbers c.args.reg.now) (form.F.Form.numbers c.args.starts.now) (sym c.bad_sizes.ensures ∙ c.if-bad_sizes.false) (sym c.bad_lengths.ensures ∙ c.if-bad_lengths.false) pass (sym c.in_default.is ∙ c.first_bad.ensures))

pub invariant_of-result : goal.invariant_of-result
invariant_of-result form c =
    let p = passed form c in
    let a = accepted c.args.g (form.F.Form.numbers c.args.reg.now) (form.F.Form.numbers c.args.starts.now) p in
    let s = good_sizes c.args.g a.sizes in record {
      sizes = (s.n_pos, s.n_most, s.side_pos, s.side_most);
      few = few_footprints c.args.g (form.F.Form.numbers c.args.reg.now) a;
      lies = accepted_lies c.args.g (form.F.Form.numbers c.args.reg.now) (form.F.Form.numbers c.args.starts.now) p;
    }

pub returns : goal.returns
returns form c =
    let p = passed form (goal.at.returns form c).In_default in record {
      judges = sym p;
      keeps = (refl, refl, starts_stand c.args.g (form.F.Form.numbers c.args.reg.now) (form.F.Form.numbers c.args.starts.now) p);
    }
