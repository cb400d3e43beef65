-- An entry that may be named has a rectangle that begins on the grid, near enough for squares of distances to fit. Assumes nothing.
use mathlib.Core.Path.{◌≡◌}
use mathlib.Core.Bool.{false}
use mathlib.Core.List.{List}
use Prim.Native.Nat.{ℕ, ◌<◌}
use native.Mathlib.Omega.{arith}
use Rattle.rules.specs.Sizes.{bad_sizes}
use Rattle.rules.specs.Register.{count, rectangle, bad_entry}
use Rattle.rules.specs.declared.Grid.{Grid}
use Rattle.rules.proofs.Good.{good_sizes, good_entry, good_rectangle}
use Rattle.grid.specs.Tiles.{Near}
use Rattle.grid.proofs.Bounds.{coordinates_most}

pub named_below : (g : Grid) (reg : List ℕ) (i : ℕ) → bad_entry g reg i ≡ false → i < count reg
named_below g reg i h = (good_entry g reg i h).0

-- a footprint that may be named begins on the grid
pub named_near : (g : Grid) (reg : List ℕ) (i : ℕ) → bad_sizes g ≡ false → bad_entry g reg i ≡ false → Near (rectangle g reg i)
named_near g reg i s h =
    let a = good_rectangle g reg i (good_entry g reg i h).1 in
    let most = coordinates_most g (good_sizes g s) in
    record { x = omega (arith, a.in_x.ordered, a.in_x.inside); y = omega (arith, a.in_y.ordered, a.in_y.inside) }
