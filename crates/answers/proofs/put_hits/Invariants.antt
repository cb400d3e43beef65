-- The first hits are put.
use Rattle.std.proofs.Common.{take}
use Rattle.laws.specs.Lists.{each}
use Rattle.rules.specs.Text.{hit_of}
use Rattle.sheet.specs.Put.{Puts}
use Rattle.answers.proofs.put_hits.Given as goal

abbrev pub invariant-loop-hit : goal.invariant-loop-hit
invariant-loop-hit l = Puts l.initial.page (each (hit_of l.g l.reg l.q) (take l.hit-index l.hits)) l.page
