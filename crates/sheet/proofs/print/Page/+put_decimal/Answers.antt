use Rattle.sheet.proofs.Pages.{put_digit, put_last}
use Rattle.sheet.proofs.print.Page.+put_decimal.Goals as goal

pub returns-then-n-lt10 : goal.returns-then-n-lt10
returns-then-n-lt10 t c = put_digit _ _ _ c.if-n-lt10.true c.put_byte.ensures

pub returns : goal.returns
returns t c = put_last _ _ _ _ c.if-n-lt10.false c.put_decimal.ensures c.put_byte-2.ensures
