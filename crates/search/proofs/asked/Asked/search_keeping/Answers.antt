-- `search::asked::Asked::search_keeping` meets its contract: damage, no room, the hits that were kept, or all of them read again. Assumes nothing.
use mathlib.Core.Path.{◌≡◌, ap, ◌∙◌}
use mathlib.Core.Bool.{false}
use mathlib.Core.List.{List}
use Prim.Native.Nat.{ℕ}
use Rattle.std.specs.Prelude.{Option, Some, None, Result, Err, ok_or}
use Rattle.std.proofs.lemmas.Result.{err_from_is_err_and}
use Rattle.laws.specs.Lists.{over}
use Rattle.rules.specs.Tables.{good_runs}
use Rattle.rules.specs.Search.{read_runs}
use Rattle.rules.specs.declared.Refusal.{Refusal}
use Rattle.rules.specs.declared.Refusal.TheVariants.{Damage}
use Rattle.search.specs.Reading.{box_most, JudgedRuns}
use Rattle.search.proofs.Verdicts.{Ready, refused_damage, promise_refused, promise_room, promise_done, kept_first, read_again}
use native.Mathlib.Omega.{arith}
-- what was judged of the search, and what it found
use Rattle.search.proofs.asked.Asked.search_keeping.Goals.{After-judge_box, In_ok-count}
use Rattle.search.proofs.asked.Asked.search_keeping.Given as given
use Rattle.search.proofs.asked.Asked.search_keeping.Goals as goal

ready : (form : given.Over) (c : After-judge_box form) → Ready c.args.self.now.g c.args.self.now.t c.args.self.now.q c.args.self.now.r
ready form c = let s = c.args.self.now in record { placed = record { sizes = s.sizes; point = s.place }; lengths = s.lengths; radius = s.radius }

found : (form : given.Over) (c : In_ok-count form) → JudgedRuns c.args.self.now.g c.args.self.now.t c.args.self.now.q c.args.self.now.r (read_runs c.args.self.now.g c.args.self.now.q c.args.self.now.r) box_most 0 c.args.first.now (Some c.in_ok-count.count) c.judge_box.new.lent
found form c = rw c.in_ok-count.ensures.ok_part at c.judge_box.ensures

pub returns-in_err-count : goal.returns-in_err-count
returns-in_err-count form c =
    let s = c.args.self.now in
    let p = err_from_is_err_and c.from_residual.result c.from_residual.ensures.1 in
    let n : c.judge_box.result ≡ None = c.in_err-count.ensures.ok_part in
    let v : ◌≡◌ {A = Result ℕ Refusal} (Err c.in_err-count.field-0.0) (Err Damage) = c.in_err-count.ensures.value ∙ ap (λ (o : Option ℕ). ok_or o Damage) n in
    let d : c.in_err-count.field-0.0 ≡ Damage = cc in
    let b : good_runs s.g s.t (read_runs s.g s.q s.r) ≡ false = rw n at c.judge_box.ensures in
    rw (p.1, p.2, d) (promise_refused s.g s.t s.q s.r Damage (refused_damage s.g s.t s.q s.r (ready form (goal.at.returns-in_err-count form c).After-judge_box) b) (form.F.Form.numbers c.args.out.now))

pub returns-then-count : goal.returns-then-count
returns-then-count form c =
    let s = c.args.self.now in
    let w = goal.at.returns-then-count form c in
    promise_room s.g s.t s.q s.r (ready form w.After-judge_box) (found form w.In_ok-count) (form.F.Form.numbers c.args.out.now) (omega arith)

pub returns-then-count-first : goal.returns-then-count-first
returns-then-count-first form c =
    let s = c.args.self.now in
    let w = goal.at.returns-then-count-first form c in
    let ok = ready form w.After-judge_box in
    let f = found form w.In_ok-count in
    promise_done s.g s.t s.q s.r ok f (form.F.Form.numbers c.args.out.now) (omega arith) _
    (c.copy.ensures ∙ ap (λ (l : List ℕ). over l (form.F.Form.numbers c.args.out.now)) (kept_first s.g s.t s.q s.r ok f (omega arith) c.judge_box.auto.lent))

pub returns-else-count-first : goal.returns-else-count-first
returns-else-count-first form c =
    let s = c.args.self.now in
    let w = goal.at.returns-else-count-first form c in
    let ok = ready form w.After-judge_box in
    let f = found form w.In_ok-count in
    promise_done s.g s.t s.q s.r ok f (form.F.Form.numbers c.args.out.now) (omega arith) _
    (read_again s.g s.t s.q s.r ok f c.judge_box-else-count-first.result (form.F.Form.numbers c.args.out.now) _ (omega arith) c.judge_box-else-count-first.ensures)
