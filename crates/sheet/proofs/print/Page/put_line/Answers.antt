use Rattle.sheet.proofs.Pages.{put_ending}
use Rattle.sheet.proofs.print.Page.put_line.Goals as goal

pub returns : goal.returns
returns c = put_ending _ _ _ _ _ _ c.put_word.ensures c.put_decimal.ensures c.put_byte.ensures
