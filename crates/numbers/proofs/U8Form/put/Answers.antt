-- `put` of the byte form meets its contract: the four bytes of number k lie inside. Assumes nothing.
use mathlib.Core.Path.{ap, ◌∙◌}
use Prim.Native.Nat.{◌+◌, ◌*◌, ◌<◌}
use native.Mathlib.Omega.{arith}
use lib.ListN.{length}
use Rattle.rules.specs.Bytes.{words}
use Rattle.numbers.specs.Words.{word_count}
use Rattle.numbers.proofs.Words.{word_put, word_laid}
use Rattle.numbers.proofs.U8Form.put.Goals as goal

pub returns : goal.returns
returns c =
    let h : 4 * c.args.k + 3 < length c.args.b.now = omega (arith, word_count c.args.b.now, c.requires) in
    let e = word_laid c.args.b.now c.args.k c.args.v _ h c.ranges.v.fits (c.copy_from_slice.ensures.after ∙ c.to_le_bytes.ensures) in
    record { bytes = e; numbers = ap words e ∙ word_put c.args.b.now c.args.k c.args.v h }
