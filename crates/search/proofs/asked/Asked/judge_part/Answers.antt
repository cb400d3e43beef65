-- `search::asked::Asked::judge_part` meets its contract: what is left of the part, entry by entry. Assumes nothing.
use mathlib.Core.Path.{◌≡◌, ap, ◌∙◌}
use lib.ListN.{get_or}
use Rattle.rules.specs.Tables.{Tables}
use Rattle.search.proofs.Part.{part_on, part_bad}
use native.Mathlib.Omega.{arith}
-- the entry, as it was read
use Rattle.search.proofs.asked.Asked.judge_part.Goals.{After-get}
use Rattle.search.proofs.asked.Asked.judge_part.Given as given
use Rattle.search.proofs.asked.Asked.judge_part.Goals as goal

entry : (form : given.Over) (c : After-get form) → c.get.result ≡ get_or c.args.self.now.t.entries c.loop-i.i 0
entry form c = c.get.ensures ∙ ap (λ (t : Tables). get_or t.entries c.loop-i.i 0) c.t.view_is

pub returns-in_err-found : goal.returns-in_err-found
returns-in_err-found form c =
    rw c.from_residual.ensures (part_bad c.loop-i.invariant.0 (omega arith) c.requires.inside (entry form (goal.at.returns-in_err-found form c).After-get) c.in_err-found.ensures)

pub loop-i-preserved : goal.loop-i-preserved
loop-i-preserved form c =
    let s = c.judge_entry.auto.lent in
    (part_on c.loop-i.invariant.0 (omega arith) c.requires.inside (entry form (goal.at.loop-i-preserved form c).After-get) c.in_ok-found.ensures (form.met.L.Form.same_count _ _ s), s ∙ c.loop-i.invariant.1)
