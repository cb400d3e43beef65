-- The tables that a walk reads, as the rules have them, and what it is refused before it reads them. Assumes nothing.
use Rattle.std.specs.Prelude.{◌≡◌, Result, Ok, Err}
use Rattle.rules.specs.Sizes.{bad_sizes, bad_point}
use Rattle.rules.specs.Tables.{Tables, tables, bad_lengths}
use Rattle.rules.specs.Refusals.{Verdict, pass, refuse, judge}
use Rattle.rules.specs.declared.Grid.{Grid}
use Rattle.rules.specs.declared.Point.{Point}
use Rattle.rules.specs.declared.Refusal.{Refusal}
use Rattle.rules.specs.declared.Refusal.TheVariants.{Sizes, Lengths, Place}
use Rattle.walk.specs.declared.ready.Outward.{Outward}

abbrev pub lent_by : Outward → Tables
lent_by w = tables w.reg.now w.starts.now w.entries.now

-- refusals 1, 2 and 4
abbrev pub point_verdict : Grid → Tables → Point → Verdict
point_verdict g t q = judge (bad_sizes g) Sizes (judge (bad_lengths g t) Lengths (judge (bad_point g q) Place pass))

-- these tables are read, from this point
pub record Reads (g : Grid) (t : Tables) (q : Point) (w : Outward) : Type 0 where
  pub grid : w.g ≡ g
  pub tables : lent_by w ≡ t
  pub point : w.q ≡ q

-- or they are refused
abbrev pub Opened : Grid → Tables → Point → Result Outward Refusal → Type 0
Opened g t q (Ok w) = Reads g t q w
Opened g t q (Err why) = point_verdict g t q ≡ refuse why
