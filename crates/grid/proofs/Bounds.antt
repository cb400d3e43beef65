-- What sizes in their ranges bound: tiles, runs and coordinates. Assumes nothing.
use Prim.Native.Nat.{ℕ, ◌+◌, ◌*◌, ◌≤◌, ◌<◌}
use native.Mathlib.Nat.{mul-le-mul, mul-le-mul_right}
use native.Mathlib.Omega.{arith}
use Rattle.rules.specs.declared.Grid.{Grid}
use Rattle.rules.proofs.Good.{GoodSizes}

pub square_most : (n : ℕ) → n ≤ 64 → n * n ≤ 4096
square_most n h = mul-le-mul h h

pub below_square : (n r c : ℕ) → r < n → c < n → r * n + c < n * n
below_square n r c hr hc = omega (arith, mul-le-mul_right n hr)

-- on a grid: a tile's number is below the square, which is at most 4,096
pub on_grid : (g : Grid) (r c : ℕ) → (g.n ≤ 64) × (r < g.n) × (c < g.n) → (r * g.n + c < g.n * g.n) × (g.n * g.n ≤ 4096)
on_grid g r c h = (below_square g.n r c h.1 h.2, square_most g.n h.0)

-- all coordinates are below 64×16,384
pub coordinates_most : (g : Grid) → GoodSizes g → g.n * g.side ≤ 1048576
coordinates_most g s = mul-le-mul {n₂ = 64} {m₂ = 16384} s.n_most s.side_most
