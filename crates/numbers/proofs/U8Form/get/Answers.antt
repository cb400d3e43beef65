-- `get` of the byte form meets its contract. Assumes nothing.
use native.Mathlib.Omega.{arith}
use Rattle.numbers.specs.Words.{word_count}
use Rattle.numbers.proofs.Words.{word_at_law}
use Rattle.numbers.proofs.U8Form.get.Goals as goal

pub returns : goal.returns
returns c =
    let w = word_at_law c.args.b.now c.args.k (omega (arith, word_count c.args.b.now, c.requires)) in
    omega (arith, c.from_le_bytes.ensures, w)
