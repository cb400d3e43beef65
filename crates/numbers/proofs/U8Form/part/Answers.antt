-- `part` of the byte form meets its contract. Assumes nothing.
use Rattle.numbers.proofs.Parts.{words_part}
use Rattle.numbers.proofs.U8Form.part.Goals as goal

pub returns : goal.returns
returns c = words_part c.args.b.now c.args.begin c.args.past
