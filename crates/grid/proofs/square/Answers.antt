-- `grid::square` meets its contract: gaps are at most 1,048,576, so the sum of their squares fits. Assumes nothing.
use Rattle.std.proofs.Common.{ℕ, ◌*◌, ◌≤◌, arith}
use native.Mathlib.Nat.{mul-le-mul}
use Rattle.rules.specs.Distance.{square}
use Rattle.grid.proofs.square.Goals as goal

small : (d : ℕ) → d ≤ 1048576 → d * d ≤ 1099511627776
small d h = mul-le-mul h h

pub returns : goal.returns
unfolding square
returns c =
    let x = small c.from-dx.result (omega arith) in
    let y = small c.from-dy.result (omega arith) in
    (cc, omega arith)
