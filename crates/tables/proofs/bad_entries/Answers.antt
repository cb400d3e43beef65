-- `tables::bad_entries` meets its contract: one may not be named where not all may. Assumes nothing.
use mathlib.Core.Path.{◌∙◌}
use Rattle.std.proofs.Common.{rules, tests}
use Rattle.std.proofs.lemmas.Iterator.{YieldsList-from_slice}
use Rattle.std.proofs.lemmas.Iterator.Search.{any_from_yields_List}
use Rattle.rules.specs.Register.{bad_entry}
use Rattle.tables.proofs.Entries.{any_bad}
use Rattle.tables.proofs.bad_entries.Goals as goal

pub returns : goal.returns
returns c =
    any_from_yields_List (bad_entry c.args.g c.args.reg.now) _ _ _ c.any.ensures.ran (YieldsList-from_slice c.args.run.now cc) (λ x b q k. search (rules, tests))
    ∙ any_bad (bad_entry c.args.g c.args.reg.now) c.args.run.now
