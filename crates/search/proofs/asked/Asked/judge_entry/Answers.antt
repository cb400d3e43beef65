-- `search::asked::Asked::judge_entry` meets its contract: each test of the entry, and its distance, decide its outcome. Assumes nothing.
use mathlib.Core.Path.{◌≡◌, refl, ◌∙◌}
use Rattle.rules.specs.Register.{bad_entry}
use Rattle.rules.specs.Search.{hit_writes, is_hit}
use Rattle.search.specs.Reading.{Placed, keep_hit}
use Rattle.search.proofs.Entries.{near_made, near_judged, bad_number, tested_entry, tested_hit, entry_bad, entry_far, entry_hit}
use native.Mathlib.Omega.{arith}
-- what was tested of the rectangle that was read, said of the entry
use Rattle.search.proofs.asked.Asked.judge_entry.Goals.{After-bad_rect, After-within}
use Rattle.search.proofs.asked.Asked.judge_entry.Given as given
use Rattle.search.proofs.asked.Asked.judge_entry.Goals as goal

entry-is : (form : given.Over) (c : After-bad_rect form) → bad_entry c.args.self.now.g (form.F.Form.numbers c.t.inside.reg.now) c.args.i ≡ c.bad_rect.result
entry-is form c =
    let s = c.args.self.now in
    tested_entry s.g _ s.q s.r c.args.i c.footprint-a.result c.footprint-a.ensures c.bad_rect.result (omega arith) c.bad_rect.ensures

hit-is : (form : given.Over) (c : After-within form) → is_hit c.args.self.now.g (form.F.Form.numbers c.t.inside.reg.now) c.args.self.now.q c.args.self.now.r c.args.i ≡ c.within.result
hit-is form c =
    let s = c.args.self.now in
    tested_hit s.g _ s.q s.r c.args.i c.footprint-a.result c.footprint-a.ensures c.within.result c.point.result c.point.ensures c.within.ensures

pub returns-then-count-at : goal.returns-then-count-at
returns-then-count-at form c =
    let s = c.args.self.now in
    rw (← c.t.view_is) (entry_bad s.g (form.F.Form.numbers c.t.inside.reg.now) c.args.i (bad_number s.g (form.F.Form.numbers c.t.inside.reg.now) c.args.i (omega arith)))

pub returns-then-bad_rect : goal.returns-then-bad_rect
returns-then-bad_rect form c =
    let s = c.args.self.now in
    rw (← c.t.view_is) (entry_bad s.g (form.F.Form.numbers c.t.inside.reg.now) c.args.i (entry-is form (goal.at.returns-then-bad_rect form c).After-bad_rect ∙ c.if-bad_rect.true))

pub within-requires : goal.within-requires
within-requires form c =
    let s = c.args.self.now in
    let ok : Placed s.g s.q = record { sizes = s.sizes; point = s.place } in
    (near_made s.g s.q ok c.point.result c.point.ensures, near_judged s.g s.q ok c.footprint-a.result c.bad_rect.result c.bad_rect.ensures c.if-bad_rect.false)

pub returns-then-not-within : goal.returns-then-not-within
returns-then-not-within form c =
    let s = c.args.self.now in
    let w = goal.at.returns-then-not-within form c in
    rw (← c.t.view_is) (entry_far s.g (form.F.Form.numbers c.t.inside.reg.now) s.q s.r c.args.i c.args.count (form.L.Form.numbers c.args.lent.now) (form.L.Form.numbers c.args.lent.now) (entry-is form w.After-bad_rect ∙ c.if-bad_rect.false) (hit-is form w.After-within ∙ c.if-not-within.true) refl)

pub returns : goal.returns
unfolding keep_hit hit_writes
returns form c =
    let s = c.args.self.now in
    let w = goal.at.returns form c in
    rw (← c.t.view_is) (entry_hit s.g (form.F.Form.numbers c.t.inside.reg.now) s.q s.r c.args.i c.args.count (form.L.Form.numbers c.args.lent.now) _ (entry-is form w.After-bad_rect ∙ c.if-bad_rect.false) (hit-is form w.After-within ∙ c.if-not-within.false) c.keep_hit.ensures)
