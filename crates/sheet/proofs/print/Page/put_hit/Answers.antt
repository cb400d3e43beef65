use Rattle.sheet.proofs.Pages.{put_pair}
use Rattle.sheet.proofs.print.Page.put_hit.Goals as goal

pub returns : goal.returns
returns c = put_pair _ _ _ _ _ (rw c.from.ensures at c.put_line.ensures) c.put_line-2.ensures
