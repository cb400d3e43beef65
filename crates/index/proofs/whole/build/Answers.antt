-- `index::whole::build` meets its contract: refused as judged, refused for room, or built by the counting sort. Assumes nothing.
use mathlib.Core.Path.{◌≡◌, sym, ap₂, ◌∙◌}
use mathlib.Core.List.{List}
use Prim.Native.Nat.{ℕ}
use native.Mathlib.Omega.{arith}
use lib.ListN.{length}
use Rattle.laws.specs.Lists.{over}
use Rattle.rules.specs.Tables.{built_entries, built_starts}
use Rattle.rules.specs.declared.Grid.{Grid}
use Rattle.std.proofs.lemmas.Result.{err_from_is_err_and}
use Rattle.index.proofs.Verdict.{build_refused, build_short, build_done}
use Rattle.index.proofs.whole.build.Goals.{After-total-need}
use Rattle.index.proofs.whole.build.Given as given
use Rattle.index.proofs.whole.build.Goals as goal

pub returns-in_err-judged : goal.returns-in_err-judged
returns-in_err-judged form c =
    let p = err_from_is_err_and c.from_residual.result c.from_residual.ensures.1 in
    rw (p.1, p.2)
    (build_refused c.args.g (form.F.Form.numbers c.args.reg.now) (form.F.Form.numbers c.args.starts.now) (form.F.Form.numbers c.args.entries.now) c.in_err-judged.field-0.0 (sym c.in_err-judged.ensures.judges))

need : (form : given.Over) (c : After-total-need form) → c.total-need.result ≡ length (built_entries c.args.g (form.F.Form.numbers c.args.reg.now))
need form c =
    let k = c.in_ok-judged.ensures.keeps in
    c.total-need.ensures ∙ ap₂ (λ (g : Grid) (r : List ℕ). length (built_entries g r)) k.0 k.1

pub returns-then-count-need : goal.returns-then-count-need
returns-then-count-need form c =
    build_short c.args.g (form.F.Form.numbers c.args.reg.now) (form.F.Form.numbers c.args.starts.now) (form.F.Form.numbers c.args.entries.now) (sym c.in_ok-judged.ensures.judges) c.total-need.result
    (need form (goal.at.returns-then-count-need form c).After-total-need) (omega (arith, c.if-count-need.true, c.count.ensures))

pub returns : goal.returns
returns form c =
    let k = c.in_ok-judged.ensures.keeps in
    build_done c.args.g (form.F.Form.numbers c.args.reg.now) (form.F.Form.numbers c.args.starts.now) (form.F.Form.numbers c.args.entries.now) (sym c.in_ok-judged.ensures.judges) c.total-need.result
    (need form (goal.at.returns form c).After-total-need) (omega (arith, c.if-count-need.false, c.count.ensures)) _ _
    (c.fill.ensures.starts_after ∙ ap₂ built_starts k.0 k.1)
    (c.fill.ensures.entries_after ∙ ap₂ (λ (g : Grid) (r : List ℕ). over (built_entries g r) (form.F.Form.numbers c.args.entries.now)) k.0 k.1)
