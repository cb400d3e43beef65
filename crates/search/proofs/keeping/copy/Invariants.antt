-- `search::keeping::copy` meets its contract: number by number from the front. Assumes nothing.
use mathlib.Core.Path.{◌≡◌}
use lib.ListN.{length}
use Rattle.search.proofs.Copies.{Copied}
use Rattle.search.proofs.keeping.copy.Given as goal

abbrev pub invariant-loop-i : goal.invariant-loop-i
invariant-loop-i form l =
    Copied l.list (form.F.Form.numbers l.initial.out) (length l.list) (form.F.Form.numbers l.out) l.i × (length l.out ≡ length l.initial.out)
