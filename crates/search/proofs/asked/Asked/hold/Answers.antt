-- `search::asked::Asked::hold` meets its contract: damaged ends, a run that joins, a part that is read. Assumes nothing.
use mathlib.Core.Path.{◌≡◌, sym, ap, ◌∙◌}
use Prim.Native.Nat.{ℕ}
use lib.ListN.{length}
use Rattle.rules.specs.Tables.{Tables, run_start, run_end, bad_ends}
use Rattle.search.proofs.Tile.{hold_damaged, hold_joined, hold_next}
use native.Mathlib.Omega.{arith}
-- the run's two ends, as they were read, and as they were judged
use Rattle.search.proofs.asked.Asked.hold.Goals.{After-bad_ends}
use Rattle.search.proofs.asked.Asked.hold.Given as given
use Rattle.search.proofs.asked.Asked.hold.Goals as goal

begins : (form : given.Over) (c : After-bad_ends form) → c.get-begin.result ≡ run_start c.args.self.now.t.starts c.args.k
unfolding run_start
begins form c = c.get-begin.ensures ∙ ap (λ (t : Tables). run_start t.starts c.args.k) c.t.view_is

ends : (form : given.Over) (c : After-bad_ends form) → c.get-past.result ≡ run_end c.args.self.now.t.starts c.args.k
unfolding run_end
ends form c = c.get-past.ensures ∙ ap (λ (t : Tables). run_end t.starts c.args.k) c.t.view_is

damaged : (form : given.Over) (c : After-bad_ends form) → bad_ends (length c.args.self.now.t.entries) c.get-begin.result c.get-past.result ≡ c.bad_ends.result
damaged form c =
    ap (λ (t : Tables). bad_ends (length t.entries) c.get-begin.result c.get-past.result) (sym c.t.view_is)
    ∙ sym (c.bad_ends.ensures ∙ ap (λ (n : ℕ). bad_ends n c.get-begin.result c.get-past.result) c.count.ensures)

pub returns-then-bad_ends : goal.returns-then-bad_ends
returns-then-bad_ends form c =
    let w = (goal.at.returns-then-bad_ends form c).After-bad_ends in
    let s = c.args.self.now in
    hold_damaged s.g s.t s.q s.r c.args.k c.get-begin.result c.get-past.result (begins form w) (ends form w) c.args.held (damaged form w ∙ c.if-bad_ends.true)

pub returns-then-begin-held : goal.returns-then-begin-held
returns-then-begin-held form c =
    let w = (goal.at.returns-then-begin-held form c).After-bad_ends in
    let s = c.args.self.now in
    hold_joined s.g s.t s.q s.r c.args.k c.get-begin.result c.get-past.result (begins form w) (ends form w) c.args.held (form.L.Form.numbers c.args.lent.now) (damaged form w ∙ c.if-bad_ends.false) c.requires.lies (omega arith)

pub returns : goal.returns
returns form c =
    let w = (goal.at.returns form c).After-bad_ends in
    let s = c.args.self.now in
    hold_next s.g s.t s.q s.r c.args.k c.get-begin.result c.get-past.result (begins form w) (ends form w) c.args.held (form.L.Form.numbers c.args.lent.now) _ (damaged form w ∙ c.if-bad_ends.false) c.in_ok-count.count c.in_ok-count.ensures
