-- What is put ends within the output.
use Rattle.std.proofs.Common.{arith, rules, sym}
use Rattle.std.proofs.Math.Seq.{length-take-le}
use Rattle.sheet.proofs.Pages.{page_within}
use Rattle.yard.proofs.refuse.Goals as goal

pub slice_bounds-out-end : goal.slice_bounds-out-end
slice_bounds-out-end g c = page_within _ _ _ _ (omega arith) c.put_refusal.ensures (search rules)

pub slice_bounds-write_all-end : goal.slice_bounds-write_all-end
slice_bounds-write_all-end g c = sym (length-take-le _ _ (page_within _ _ _ _ (omega arith) c.put_refusal.ensures (search rules)))
