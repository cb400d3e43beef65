-- `index::whole::check` meets its contract: refused as judged, else yes exactly where the tables are what the build leaves. Assumes nothing.
use mathlib.Core.Path.{sym, ap₂, ◌∙◌}
use mathlib.Core.List.{List}
use Prim.Native.Nat.{ℕ}
use Rattle.std.proofs.lemmas.Result.{err_from_is_err_and}
use Rattle.rules.specs.declared.Grid.{Grid}
use Rattle.index.specs.Check.{is_right}
use Rattle.index.proofs.Right.{right_is_built}
use Rattle.index.proofs.Verdict.{check_refused, check_done}
use Rattle.index.proofs.whole.check.Goals as goal

pub returns-in_err-judged : goal.returns-in_err-judged
returns-in_err-judged form c =
    let p = err_from_is_err_and c.from_residual.result c.from_residual.ensures.1 in
    let t = c.t.inside in
    rw (p.1, p.2, ← c.t.view_is)
    (check_refused c.args.g (form.F.Form.numbers t.reg.now) (form.F.Form.numbers t.starts.now) (form.F.Form.numbers t.entries.now) c.in_err-judged.field-0.0 (sym c.in_err-judged.ensures.judges))

pub returns : goal.returns
returns form c =
    let t = c.t.inside in
    let reg = form.F.Form.numbers t.reg.now in
    let starts = form.F.Form.numbers t.starts.now in
    let entries = form.F.Form.numbers t.entries.now in
    let k = c.in_ok-judged.ensures.keeps in
    rw (← c.t.view_is)
    (check_done c.args.g reg starts entries (sym c.in_ok-judged.ensures.judges) c.is_right.result
    (c.is_right.ensures ∙ ap₂ (λ (g : Grid) (r : List ℕ). is_right g r starts entries) k.0 k.1 ∙ right_is_built c.args.g reg starts entries k.2))
