use Rattle.std.proofs.Common.{refl}
use Rattle.sheet.proofs.Pages.{nothing_put, word_step}
use Rattle.sheet.proofs.print.Page.put_word.Goals as goal

pub loop-byte-preserved : goal.loop-byte-preserved
loop-byte-preserved c = word_step _ _ _ _ _ _ c.loop-byte-test.true refl c.loop-byte.invariant c.put_byte.ensures

pub loop-byte-init : goal.loop-byte-init
loop-byte-init c = nothing_put _
