-- An entry judged: its footprint and the point lie on the grid, and the three outcomes, damage, too far, a hit. Assumes nothing.
use mathlib.Core.Path.{◌≡◌, sym, ap, ap₂, ◌∙◌}
use mathlib.Core.Bool.{Bool, true, false, ◌||◌}
use mathlib.Core.List.{List, [], ◌∷◌}
use Prim.Native.Nat.{ℕ, ◌+◌, ◌≤◌, ◌<◌}
use native.Mathlib.Nat.{add-zero}
use native.Mathlib.Omega.{arith}
use borrow.Author.Tests.{le-leb, lt-leb}
use Rattle.std.specs.Prelude.{Some}
use Rattle.laws.proofs.Tests.{neither}
use Rattle.rules.specs.Distance.{within, point}
use Rattle.rules.specs.Register.{count, rectangle, bad_span, bad_footprint, bad_entry}
use Rattle.rules.specs.Search.{is_hit}
use Rattle.rules.specs.declared.Grid.{Grid}
use Rattle.rules.specs.declared.Point.{Point}
use Rattle.rules.specs.declared.Rect.{Rect}
use Rattle.rules.proofs.Good.{good_sizes, on_grid, good_span}
use Rattle.grid.specs.Tiles.{Near}
use Rattle.grid.proofs.Bounds.{coordinates_most}
use Rattle.tables.specs.Entries.{good_entries}
use Rattle.search.specs.Reading.{Placed, keep_hit, kept, JudgedEntries}

-- ---- near enough that squares fit

module _ (g : Grid) (q : Point) (ok : Placed g q) where
  pub near_point : Near (point q)
  unfolding point
  near_point =
      let o = on_grid g q ok.point in
      let m = coordinates_most g (good_sizes g ok.sizes) in
      record { x = omega arith; y = omega arith }

  pub near_rect : (a : Rect) → bad_span g a.x ≡ false → bad_span g a.y ≡ false → Near a
  near_rect a e f =
      let sx = good_span g a.x e in
      let sy = good_span g a.y f in
      let m = coordinates_most g (good_sizes g ok.sizes) in
      record { x = omega arith; y = omega arith }

  -- the point as it was made a rectangle, and a rectangle that was judged
  pub near_made : (p : Rect) → p ≡ point q → Near p
  near_made p e = rw e near_point

  pub near_judged : (a : Rect) (b : Bool) → b ≡ bad_span g a.x || bad_span g a.y → b ≡ false → Near a
  near_judged a b e f = let n = neither (bad_span g a.x) (bad_span g a.y) (sym e ∙ f) in near_rect a n.0 n.1

-- ---- whether an entry may be named

module _ (g : Grid) (reg : List ℕ) (i : ℕ) where
  pub bad_number : count reg ≤ i → bad_entry g reg i ≡ true
  unfolding bad_entry
  bad_number h = rw (le-leb (count reg) i h)

-- the tests of the rectangle that was read are tests of footprint i's
module _ (g : Grid) (reg : List ℕ) (q : Point) (r i : ℕ) (a : Rect) (is_read : a ≡ rectangle g reg i) (b : Bool) where
  pub tested_entry : i < count reg → b ≡ bad_span g a.x || bad_span g a.y → bad_entry g reg i ≡ b
  unfolding bad_entry bad_footprint rectangle
  tested_entry h k = rw (lt-leb (count reg) i h) (sym (k ∙ ap (λ (s : Rect). bad_span g s.x || bad_span g s.y) is_read))

  pub tested_hit : (p : Rect) → p ≡ point q → b ≡ within r p a → is_hit g reg q r i ≡ b
  unfolding is_hit
  tested_hit p k h = sym (h ∙ ap₂ (within r) k is_read)

-- ---- the three outcomes

module _ (g : Grid) (reg : List ℕ) (i : ℕ) where
  pub entry_bad : bad_entry g reg i ≡ true → good_entries g reg (i ∷ []) ≡ false
  entry_bad e = rw e

module _ (g : Grid) (reg : List ℕ) (q : Point) (r i c : ℕ) (lent₀ lent : List ℕ) where
  pub entry_far : bad_entry g reg i ≡ false → is_hit g reg q r i ≡ false → lent ≡ lent₀ → JudgedEntries g reg q r (i ∷ []) 1 c lent₀ (Some c) lent
  entry_far e f same = record {
    left = record { still = rw e; counts = rw f; keeps = rw (f, same) };
    few = omega arith;
  }

  pub entry_hit : bad_entry g reg i ≡ false → is_hit g reg q r i ≡ true → lent ≡ keep_hit g reg q c i lent₀
      → JudgedEntries g reg q r (i ∷ []) 1 c lent₀ (Some (c + 1)) lent
  unfolding kept
  entry_hit e f same = record {
    left = record { still = rw e; counts = rw f (add-zero (c + 1)); keeps = rw (f, same) };
    few = omega arith;
  }
