-- `walk::ready::Outward::tile_of` meets its contract. Assumes nothing.
use mathlib.Core.Path.{ap₂, ◌∙◌}
use Prim.Native.Nat.{ℕ}
use Rattle.rules.specs.Sizes.{tile_no, tile_of}
use Rattle.walk.proofs.Near.{sized, columns}
use native.Mathlib.Omega.{arith}
use Rattle.walk.proofs.Readiness.{placed_of}
use Rattle.walk.proofs.ready.Outward.tile_of.Goals as goal

pub tile_no-requires : goal.tile_no-requires
tile_no-requires c =
    let a = c.args in
    let pre = c.requires in
    let s = sized a.self.now.g a.self.now.q (placed_of a.self.now) in
    let o = columns a.self.now.g a.self.now.q (placed_of a.self.now) in
    (s.n_most, omega (arith, c.column.ensures), omega (arith, c.column-2.ensures))

pub returns : goal.returns
unfolding tile_of
returns c = (c.tile_no.ensures.0 ∙ ap₂ (λ (a b : ℕ). tile_no c.args.self.now.g a b) c.column.ensures c.column-2.ensures, c.tile_no.ensures.1)
