-- `walk::ready::Outward::tile_mask` meets its contract. Assumes nothing.
use mathlib.Core.Path.{ap₂, ◌∙◌}
use Prim.Native.Nat.{ℕ, ◌/◌, ◌%◌}
use Rattle.rules.specs.Sizes.{row_of, column_of}
use Rattle.rules.specs.Span.{place}
use Rattle.rules.specs.Classes.{allowed, allowed_in}
use Rattle.walk.proofs.Near.{sized}
use Rattle.walk.proofs.Readiness.{placed_of}
use Rattle.walk.proofs.ready.Outward.tile_mask.Goals as goal

pub nonzero_div-tile : goal.nonzero_div-tile
nonzero_div-tile c = let w = c.args.self.now in (sized w.g w.q (placed_of w)).n_pos

pub nonzero_rem-tile : goal.nonzero_rem-tile
nonzero_rem-tile c = let w = c.args.self.now in (sized w.g w.q (placed_of w)).n_pos

pub returns : goal.returns
unfolding allowed_in row_of column_of
returns c =
    let a = c.args in
    λ class h. c.allowed_mask.ensures class h ∙ ap₂ (λ (x y : ℕ). allowed (place (a.tile % a.self.now.g.n) x) (place (a.tile / a.self.now.g.n) y) class) c.column-col.ensures c.column-row.ensures
