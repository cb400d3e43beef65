-- The products that bound tiles and runs, and the column of a span's end. Assumes nothing.
use mathlib.Core.Path.{◌≡◌, sym, ◌∙◌}
use mathlib.Core.Bool.{Bool, true, false}
use borrow.Author.Tests.{ltb-false}
use mir.Val.{bool_byte}
use Prim.Native.Nat.{ℕ, ◌+◌, ◌*◌, ◌/◌, ◌≤◌, ◌<◌}
use native.Mathlib.Nat.{mul-le-mul}
use native.Mathlib.Omega.{arith}
use Rattle.laws.proofs.Numbers.{div_rises}
use Rattle.rules.specs.Sizes.{column}
use Rattle.rules.specs.Span.{ends}
use Rattle.rules.specs.Classes.{bit}
use Rattle.rules.specs.declared.Grid.{Grid}
use Rattle.rules.specs.declared.Span.{Span}
use Rattle.rules.proofs.Spans.{ends_col}
use Rattle.grid.proofs.Bounds.{below_square, square_most}
use Rattle.index.specs.Tiles.{Within, area}
use Rattle.index.specs.declared.touched.Tiles.{Tiles}

-- on a grid: the tile's number is below the square, which is at most 4,096
pub on_grid : (n r c : ℕ) → (n ≤ 64) × (r < n) × (c < n) → (r * n + c < n * n) × (n * n ≤ 4096)
on_grid n r c h = (below_square n r c h.1 h.2, square_most n h.0)

pub area_most : (s : Tiles) → Within 64 s 65536 → area s ≤ 4096
area_most s w = mul-le-mul {n₂ = 64} {m₂ = 64} (omega (arith, w.row)) (omega (arith, w.col))

pub within_64 : (n m : ℕ) (s : Tiles) → Within n s m → Within 64 s 65536
within_64 n m s w = omega (arith, w)

-- a test as a number is its bit
pub byte_bit : (b : Bool) (n : ℕ) → n ≡ bool_byte b → (n ≡ bit b) × (n ≤ 1)
byte_bit true n e = (e, omega arith)
byte_bit false n e = (e, omega arith)

-- a span that does not end after its first column ends in it
pub ends_there : (g : Grid) (c : ℕ) (s : Span) → 0 < g.side → s.lo ≤ s.hi → c ≡ column g s.lo → ends g.side c s ≡ false
    → c ≡ column g s.hi
unfolding column
ends_there g c s pos h e f =
    let most : s.hi / g.side ≤ c = ltb-false c (s.hi / g.side) (sym (ends_col pos c s) ∙ f) in
    omega (arith, e, most, div_rises {a = s.lo} {b = s.hi} pos h)
