-- What an accepted grid and point bound: coordinates whose squares fit, columns and tiles on the grid. Assumes nothing.
use mathlib.Core.Path.{◌≡◌, refl, ap, ◌∙◌}
use mathlib.Core.Bool.{false}
use mathlib.Core.List.{List, []}
use Prim.Native.Nat.{ℕ, ◌*◌, ◌/◌, ◌%◌, ◌≤◌, ◌<◌}
use native.Mathlib.Nat.{mul-le-mul, mod-lt, div-lt_iff_lt-mul}
use native.Mathlib.Omega.{arith}
use Rattle.rules.specs.Sizes.{column, tile_count}
use Rattle.rules.specs.Distance.{square, point}
use Rattle.rules.specs.Register.{rectangle, bad_entry}
use Rattle.rules.specs.Tables.{tables, bad_lengths}
use Rattle.rules.specs.Front.{row, encoded}
use Rattle.rules.specs.Walk.{square_of, waiting_row}
use Rattle.rules.specs.declared.Grid.{Grid}
use Rattle.rules.specs.declared.Point.{Point}
use Rattle.rules.specs.declared.Rect.{Rect}
use Rattle.rules.specs.declared.Item.TheVariants.{Footprint}
use Rattle.rules.specs.declared.Three.{Three}
use Rattle.rules.proofs.Good.{GoodSizes, good_sizes, on_grid, good_rectangle, good_entry}
use Rattle.rules.proofs.GroupLines.{columns_on_grid}
use Rattle.grid.specs.Tiles.{Near}
use Rattle.grid.proofs.Bounds.{square_most, coordinates_most}
use Rattle.walk.specs.Reading.{Placed}

-- no gap is wider than the grid
pub square_fits : (a : ℕ) → a ≤ 1048576 → a * a ≤ 1099511627776
square_fits a h = mul-le-mul {n₂ = 1048576} {m₂ = 1048576} h h

module _ (g : Grid) (q : Point) (ok : Placed g q) where
  pub sized : GoodSizes g
  sized = good_sizes g ok.sizes

  pub point_most : (q.x ≤ 1048576) × (q.y ≤ 1048576)
  point_most =
      let o = on_grid g q ok.point in
      let m = coordinates_most g sized in
      (omega arith, omega arith)

  pub near_point : Near (point q)
  unfolding point
  near_point = record { x = point_most.0; y = point_most.1 }

  pub near_footprint : (reg : List ℕ) (i : ℕ) → bad_entry g reg i ≡ false → Near (rectangle g reg i)
  near_footprint reg i e =
      let r = good_rectangle g reg i (good_entry g reg i e).1 in
      let m = coordinates_most g sized in
      let x = r.in_x in
      let y = r.in_y in
      record { x = omega arith; y = omega arith }

  pub columns : (column g q.x < g.n) × (column g q.y < g.n)
  columns = columns_on_grid g q ok.point

  -- a tile's column and its row are on the grid
  pub tile_on : (tile : ℕ) → tile < tile_count g → (tile % g.n < g.n) × (tile / g.n < g.n) × (tile_count g ≤ 4096)
  unfolding tile_count
  tile_on tile h =
      let s = sized in
      (mod-lt tile s.n_pos, (div-lt_iff_lt-mul {k = g.n} {x = tile} {y = g.n} s.n_pos).1 h, square_most g.n s.n_most)

-- a footprint's row
pub footprint_row : (g : Grid) (reg : List ℕ) (q : Point) (i : ℕ) (a : Rect) (s : ℕ) (t : Three) → a ≡ rectangle g reg i → s ≡ square (point q) a
    → t ≡ encoded (row s (Footprint i)) → t ≡ waiting_row g reg q (Footprint i)
unfolding waiting_row square_of
footprint_row g reg q i a s t ea es et = et ∙ ap (λ (k : ℕ). encoded (row k (Footprint i))) (es ∙ ap (square (point q)) ea)

-- the entries do not decide whether the lengths are bad
pub lengths_alone : (g : Grid) (reg starts entries : List ℕ) → bad_lengths g (tables reg starts []) ≡ bad_lengths g (tables reg starts entries)
unfolding bad_lengths
lengths_alone g reg starts entries = refl
