-- `join::runs::Run::new` meets its contract: the box holds the footprints of the run. Assumes nothing.
use mathlib.Core.Path.{◌≡◌, refl, sym, ap, subst}
use mathlib.Core.Bool.{true}
use Rattle.rules.specs.Tables.{Tables}
use Rattle.tables.specs.Entries.{good_entries}
use Rattle.join.proofs.runs.Run.new.Goals as goal

pub box_of-requires : goal.box_of-requires
box_of-requires c =
    let P : Tables → Type 0 = λ t. good_entries c.args.g t.reg c.args.entries.now ≡ true in
    (c.requires.0, subst P (sym c.side.view_is) c.requires.2, c.requires.3)

pub returns : goal.returns
returns c =
    let P : Tables → Type 0 = λ t. good_entries c.args.g t.reg c.args.entries.now ≡ true in
    record {
      register = ap (λ (t : Tables). t.reg) c.side.view_is;
      numbered = refl;
      entries = c.requires.1;
      good = subst P (sym c.side.view_is) c.requires.2;
      held = c.box_of.ensures.1;
    }
