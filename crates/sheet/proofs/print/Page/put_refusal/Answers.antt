use Rattle.std.proofs.Common.{ap, ◌≡◌, ◌∙◌}
use Rattle.rules.specs.Refusals.{paper}
use Rattle.outward.specs.Outward.{outward}
use Rattle.outward.specs.declared.Told.{Told}
use Rattle.sheet.proofs.Pages.{put_refused, put_refused_line}
-- what was put is the paper's number
use Rattle.sheet.proofs.print.Page.put_refusal.Goals.{After-put_line}
use Rattle.sheet.proofs.print.Page.put_refusal.Goals as goal

numbered : (c : After-put_line) → c.from.result ≡ (paper c.args.refusal).number
unfolding outward
numbered c = c.from.ensures ∙ ap (λ (t : Told). t.number) c.from-number.ensures

pub returns-in-Text : goal.returns-in-Text
returns-in-Text c =
    put_refused_line _ _ _ _ _ _ _ c.in-Text.is (numbered (goal.at.returns-in-Text c).After-put_line) c.from-in-Text.ensures c.put_line.ensures c.put_line-in-Text.ensures

pub returns-in_default : goal.returns-in_default
returns-in_default c =
    put_refused _ _ _ _ c.in_default.not-Text (numbered (goal.at.returns-in_default c).After-put_line) c.put_line.ensures
