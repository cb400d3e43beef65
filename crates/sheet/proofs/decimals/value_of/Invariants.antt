-- The number so far, read on over the digits that are left, is the whole.
use Rattle.sheet.proofs.Digits.{Reading}
use Rattle.sheet.proofs.decimals.value_of.Given as goal

abbrev pub invariant-loop-digit : goal.invariant-loop-digit
invariant-loop-digit l = Reading l.digits l.number l.digit-index
