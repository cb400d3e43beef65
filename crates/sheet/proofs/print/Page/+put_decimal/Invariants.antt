-- The measure is the number, of which each call takes the last digit off.
use Rattle.sheet.proofs.print.Page.+put_decimal.Given as goal

abbrev pub decreases-put_decimal : goal.decreases-put_decimal
decreases-put_decimal l = l.n
