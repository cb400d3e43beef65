-- `search::asked::Asked::judge_part` meets its contract: what is left of the part, entry by entry. Assumes nothing.
use mathlib.Core.Path.{◌≡◌}
use lib.ListN.{length}
use Rattle.search.proofs.Part.{PartLeft}
use Rattle.search.proofs.asked.Asked.judge_part.Given as goal

abbrev pub invariant-loop-i : goal.invariant-loop-i
invariant-loop-i form l =
    PartLeft l.self.g l.self.t.reg l.self.t.entries l.self.q l.self.r l.fn.part.begin l.fn.part.past l.count (form.L.Form.numbers l.initial.lent) (form.L.Form.numbers l.lent) l.found l.i × (length l.lent ≡ length l.initial.lent)
