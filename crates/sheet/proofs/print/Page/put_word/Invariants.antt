-- The first bytes of the word are put.
use Rattle.std.proofs.Common.{take}
use Rattle.sheet.specs.Put.{Puts}
use Rattle.sheet.proofs.print.Page.put_word.Given as goal

abbrev pub invariant-loop-byte : goal.invariant-loop-byte
invariant-loop-byte l = Puts l.initial.self (take l.byte-index l.word) l.self
