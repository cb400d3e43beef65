-- Squares do not fall from a group to its tiles and to the next group of its direction, nor from a reporting tile to its footprint.
-- Assumes nothing.
use mathlib.Core.Path.{◌≡◌}
use mathlib.Core.Bool.{true}
use mathlib.Core.List.{List}
use Prim.Native.Nat.{ℕ, ◌+◌, ◌-◌, ◌≤◌, ◌<◌}
use native.Mathlib.Nat.{le-add_left, le-add_right}
use native.Mathlib.Omega.{arith}
use lib.Dec.{eqb}
use borrow.Author.Tests.{eqb-true}
use Rattle.laws.proofs.Tests.{all_three}
use Rattle.laws.proofs.Numbers.{square_rises}
use Rattle.rules.specs.Sizes.{column, row_of, column_of}
use Rattle.rules.specs.Span.{at, cover, gap}
use Rattle.rules.specs.Distance.{sq, square, point, tile_rect}
use Rattle.rules.specs.Classes.{report_tile}
use Rattle.rules.specs.Register.{rectangle}
use Rattle.rules.specs.Walk.{in_group, tile_in_group, group_gap, square_of}
use Rattle.rules.specs.declared.Grid.{Grid}
use Rattle.rules.specs.declared.Point.{Point}
use Rattle.rules.specs.declared.Direction.{Direction}
use Rattle.rules.specs.declared.Direction.TheVariants.{Up, Right, Down, Left}
use Rattle.rules.specs.declared.Item.TheVariants.{Group, Tile, Footprint}
use Rattle.rules.proofs.Good.{GoodRect}
use Rattle.rules.proofs.Spans.{gap_after, gap_before}
use Rattle.rules.proofs.Report.{report_near}

module _ (g : Grid) (pos : 0 < g.side) (reg : List ℕ) (q : Point) where
  in_group_law : (d : Direction) (l x y : ℕ) → in_group (column g q.x) (column g q.y) d l x y ≡ true
      → sq (group_gap g q d l) ≤ sq (gap (at q.x) (cover g.side x)) + sq (gap (at q.y) (cover g.side y))
  unfolding in_group group_gap
  in_group_law Up l x y t = rw (eqb-true y (column g q.y + l) (all_three (eqb y (column g q.y + l)) _ _ t).0) (le-add_left _ _)
  in_group_law Right l x y t = rw (eqb-true x (column g q.x + l) (all_three (eqb x (column g q.x + l)) _ _ t).0) (le-add_right _ _)
  in_group_law Down l x y t =
      let e : y + l ≡ column g q.y = eqb-true _ _ (all_three (eqb (y + l) (column g q.y)) _ _ t).0 in
      let f : column g q.y - l ≡ y = omega arith in
      rw f (le-add_left _ _)
  in_group_law Left l x y t =
      let e : x + l ≡ column g q.x = eqb-true _ _ (all_three (eqb (x + l) (column g q.x)) _ _ t).0 in
      let f : column g q.x - l ≡ x = omega arith in
      rw f (le-add_right _ _)

  -- a tile is no nearer than its group
  pub tile_farther : (d : Direction) (l t : ℕ) → tile_in_group g q d l t ≡ true → square_of g reg q (Group d l) ≤ square_of g reg q (Tile t)
  unfolding tile_in_group square_of square point tile_rect
  tile_farther d l t e = in_group_law d l (column_of g t) (row_of g t) e

  gap_rises : (d : Direction) (l : ℕ) → group_gap g q d l ≤ group_gap g q d (l + 1)
  unfolding group_gap column
  gap_rises Up l = gap_after pos q.y _ _ (le-add_right _ _) (omega arith)
  gap_rises Right l = gap_after pos q.x _ _ (le-add_right _ _) (omega arith)
  gap_rises Down l = gap_before pos q.y _ _ (omega arith) (omega arith)
  gap_rises Left l = gap_before pos q.x _ _ (omega arith) (omega arith)

  -- nor is the next group
  pub next_farther : (d : Direction) (l : ℕ) → square_of g reg q (Group d l) ≤ square_of g reg q (Group d (l + 1))
  unfolding square_of
  next_farther d l = square_rises (gap_rises d l)

  -- nor a footprint than its reporting tile
  pub footprint_farther : (i : ℕ) → GoodRect g (rectangle g reg i)
      → square_of g reg q (Tile (report_tile g q (rectangle g reg i))) ≤ square_of g reg q (Footprint i)
  unfolding square_of
  footprint_farther i ok = report_near g pos q (rectangle g reg i) ok
