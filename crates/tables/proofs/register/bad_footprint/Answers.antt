-- `tables::register::bad_footprint` meets its contract: its rectangle has a bad span. Assumes nothing.
use mathlib.Core.Path.{ap, ◌∙◌}
use mathlib.Core.Bool.{◌||◌}
use Rattle.rules.specs.Register.{rectangle, bad_span, bad_footprint}
use Rattle.rules.specs.declared.Rect.{Rect}
use Rattle.tables.proofs.register.bad_footprint.Goals as goal

pub returns : goal.returns
unfolding bad_footprint rectangle
returns g c =
    c.bad_rect.ensures
    ∙ ap (λ (a : Rect). bad_span c.args.g a.x || bad_span c.args.g a.y) c.footprint.ensures
