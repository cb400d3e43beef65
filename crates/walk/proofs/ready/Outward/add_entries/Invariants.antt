-- `walk::ready::Outward::add_entries` meets its contract: what stands, with the entries that are left brought to it, is the whole. Assumes nothing.
use mathlib.Core.Path.{◌≡◌}
use mathlib.Core.Bool.{true}
use lib.ListN.{drop}
use Rattle.walk.specs.Fill.{stands}
use Rattle.tables.specs.Entries.{good_entries}
use Rattle.walk.specs.Reading.{entry_rows}
use Rattle.walk.proofs.Bringing.{Bringing}
use Rattle.walk.proofs.ready.Outward.add_entries.Given as goal

abbrev pub invariant-loop-i : goal.invariant-loop-i
invariant-loop-i l =
    Bringing (stands l.initial.front l.initial.batch l.initial.f) (entry_rows l.self.g l.self.reg.now l.self.q l.entries) (entry_rows l.self.g l.self.reg.now l.self.q (drop l.i-index l.entries)) l.front l.batch l.f
    × (good_entries l.self.g l.self.reg.now (drop l.i-index l.entries) ≡ true)
