-- What `probes::listing::list_all` keeps: the turns that are left make of what is listed so far what all make. Assumes nothing.
use Rattle.std.proofs.Common.{◌≡◌, ◌≤◌, ◌*◌, Ok}
use Rattle.probes.specs.Listing.{list_most, list_all}
use Rattle.probes.proofs.Turns.{rest_from}
use Rattle.probes.proofs.listing.list_all.Given as goal

abbrev pub invariant-loop-i : goal.invariant-loop-i
invariant-loop-i l =
    record {
      below : l.total ≤ l.i * list_most;
      rest : rest_from l.g l.t l.probes l.i (Ok l.total, l.lent, l.ends)
          ≡ list_all l.g l.t l.probes l.initial.lent l.initial.ends;
    }
