-- The tiles of a group are a line of tile numbers. Assumes nothing.
use mathlib.Core.Path.{◌≡◌, refl, sym, ap, ap₂, ◌∙◌}
use mathlib.Core.Bool.{Bool, true, false}
use Prim.Native.Nat.{ℕ, zero, suc, ◌+◌, ◌-◌, ◌*◌, ◌/◌, ◌%◌, min, ◌<◌, ◌≤◌}
use native.Mathlib.Nat.{not-suc-le-zero, add-mul, mod-lt, div-add-mod', mul-add-div_right, mul-add-mod_self_right, div-eq_of_lt, mod-eq_of_lt, mul-le-mul_right, div-lt_iff_lt-mul}
use native.Mathlib.Omega.{arith}
use lib.Dec.{leb, ltb, eqb}
use borrow.Author.Tests.{le-leb, lt-ltb, eq-eqb, eqb-true, leb-true, ltb-true, leb-false}
use Rattle.laws.specs.Lists.{filter, from}
use Rattle.laws.specs.Lines.{line}
use Rattle.laws.proofs.Tests.{all_three, neither}
use Rattle.laws.proofs.Ranges.{mem_from}
use Rattle.laws.proofs.Members.{mem_filter}
use Rattle.laws.proofs.Lines.{filter_line, line_mem}
use Rattle.rules.specs.Sizes.{off_grid, bad_point, column, row_of, column_of, tile_no, tile_count, tiles}
use Rattle.rules.specs.Walk.{exists, in_group, group_exists, tile_in_group, group_tiles}
use Rattle.rules.specs.Lines.{line_of, row_line, column_line, group_line_at, group_line}
use Rattle.rules.specs.declared.Grid.{Grid}
use Rattle.rules.specs.declared.Point.{Point}
use Rattle.rules.specs.declared.Direction.{Direction}
use Rattle.rules.specs.declared.Direction.TheVariants.{Up, Right, Down, Left}

-- ---- the tiles of a row and of a column, n tiles wide

module _ (n : ℕ) (pos : 0 < n) where
  tile_row : (r x : ℕ) → x < n → (r * n + x) / n ≡ r
  tile_row r x h = mul-add-div_right pos r x ∙ omega (arith, div-eq_of_lt {n = x} {m = n} h)

  tile_column : (r x : ℕ) → x < n → (r * n + x) % n ≡ x
  tile_column r x h = mul-add-mod_self_right r n x ∙ mod-eq_of_lt h

  tile_inside : (r x : ℕ) → r < n → x < n → r * n + x < n * n
  tile_inside r x h k = omega (arith, mul-le-mul_right {m = suc r} {n = n} n h)

  module _ (p : ℕ → ℕ → Bool) where
    -- those that pass stand in row r, in the columns a..b−1
    row_line_law : (r a b : ℕ) → r < n → a ≤ b → b ≤ n
        → ((x : ℕ) → a ≤ x → x < b → p x r ≡ true) → ((x y : ℕ) → x < n → p x y ≡ true → (y ≡ r) × (a ≤ x) × (x < b))
        → filter (λ t. p (t % n) (t / n)) (from 0 (n * n)) ≡ line (r * n + a) 1 (b - a)
    row_line_law r a b hr hab hb yea nay = filter_line (λ t. p (t % n) (t / n)) 1 (omega arith) (n * n) 0 (b - a) (r * n + a) (omega arith) (record {
      passes = λ j h.
          let e : r * n + a + j * 1 ≡ r * n + (a + j) = omega arith in
          let x : a + j < n = omega arith in
          let w = tile_inside r (a + j) hr x in
          (rw (e, tile_row r (a + j) x, tile_column r (a + j) x) (yea (a + j) (omega arith) (omega arith)), omega arith);
      only = λ t _ lt e.
          let q = nay (t % n) (t / n) (mod-lt t pos) e in
          let f = q.0 in
          let m : r * n + t % n ≡ t = ap (λ (y : ℕ). y * n + t % n) (sym f) ∙ div-add-mod' t n in
          (t % n - a, omega arith, omega arith);
    })

    -- those that pass stand in column c, in the rows a..b−1
    column_line_law : (c a b : ℕ) → c < n → a ≤ b → b ≤ n
        → ((y : ℕ) → a ≤ y → y < b → p c y ≡ true) → ((x y : ℕ) → y < n → p x y ≡ true → (x ≡ c) × (a ≤ y) × (y < b))
        → filter (λ t. p (t % n) (t / n)) (from 0 (n * n)) ≡ line (a * n + c) n (b - a)
    column_line_law c a b hc hab hb yea nay = filter_line (λ t. p (t % n) (t / n)) n pos (n * n) 0 (b - a) (a * n + c) (omega arith) (record {
      passes = λ j h.
          let e : a * n + c + j * n ≡ (a + j) * n + c = omega arith in
          let w = tile_inside (a + j) c (omega arith) hc in
          (rw (e, tile_row (a + j) c hc, tile_column (a + j) c hc) (yea (a + j) (omega arith) (omega arith)), omega arith);
      only = λ t _ lt e.
          let q = nay (t % n) (t / n) ((div-lt_iff_lt-mul {k = n} {x = t} {y = n} pos).1 (omega arith)) e in
          let f = q.0 in
          let y : t / n ≡ a + (t / n - a) = omega arith in
          let z : (a + (t / n - a)) * n ≡ a * n + (t / n - a) * n = add-mul a (t / n - a) n in
          let m : (a + (t / n - a)) * n + c ≡ t = ap₂ (λ (x w : ℕ). x * n + w) (sym y) (sym f) ∙ div-add-mod' t n in
          (t / n - a, omega arith, omega arith);
    })

-- ---- the four groups of level l around column c and row r

module _ (g : Grid) (c r l : ℕ) (hc : c < g.n) (hr : r < g.n) where
  some : 0 < g.n
  some = omega arith

  abbrev InLine : Direction → Type 0
  InLine d = filter (λ t. in_group c r d l (t % g.n) (t / g.n)) (from 0 (g.n * g.n)) ≡ line_of (group_line_at g c r d l)

  up_line : r + l < g.n → InLine Up
  unfolding in_group group_line_at row_line tile_no
  up_line h =
      row_line_law g.n some (in_group c r Up l) (r + l) (c - l) (min (c + l) g.n) h (omega arith) (omega arith)
      (λ x a b. rw (eq-eqb (r + l) (r + l) refl, le-leb c (x + l) (omega arith), lt-ltb x (c + l) (omega arith)) refl)
      (λ x y k e. let q = all_three (eqb y (r + l)) (leb c (x + l)) (ltb x (c + l)) e in
      let f = leb-true c (x + l) q.1 in
      let m = ltb-true x (c + l) q.2 in
      (eqb-true y (r + l) q.0, omega arith, omega arith))

  right_line : c + l < g.n → InLine Right
  unfolding in_group group_line_at column_line tile_no
  right_line h =
      column_line_law g.n some (in_group c r Right l) (c + l) (r + 1 - l) (min (r + l + 1) g.n) h (omega arith) (omega arith)
      (λ y a b. rw (eq-eqb (c + l) (c + l) refl, lt-ltb r (y + l) (omega arith), le-leb y (r + l) (omega arith)) refl)
      (λ x y k e. let q = all_three (eqb x (c + l)) (ltb r (y + l)) (leb y (r + l)) e in
      let f = ltb-true r (y + l) q.1 in
      let m = leb-true y (r + l) q.2 in
      (eqb-true x (c + l) q.0, omega arith, omega arith))

  down_line : l ≤ r → InLine Down
  unfolding in_group group_line_at row_line tile_no
  down_line h =
      row_line_law g.n some (in_group c r Down l) (r - l) (c + 1 - l) (min (c + l + 1) g.n) (omega arith) (omega arith) (omega arith)
      (λ x a b. rw (eq-eqb (r - l + l) r (omega arith), lt-ltb c (x + l) (omega arith), le-leb x (c + l) (omega arith)) refl)
      (λ x y k e. let q = all_three (eqb (y + l) r) (ltb c (x + l)) (leb x (c + l)) e in
      let d = eqb-true (y + l) r q.0 in
      let f = ltb-true c (x + l) q.1 in
      let m = leb-true x (c + l) q.2 in
      (omega arith, omega arith, omega arith))

  left_line : l ≤ c → InLine Left
  unfolding in_group group_line_at column_line tile_no
  left_line h =
      column_line_law g.n some (in_group c r Left l) (c - l) (r - l) (min (r + l) g.n) (omega arith) (omega arith) (omega arith)
      (λ y a b. rw (eq-eqb (c - l + l) c (omega arith), le-leb r (y + l) (omega arith), lt-ltb y (r + l) (omega arith)) refl)
      (λ x y k e. let q = all_three (eqb (x + l) c) (leb r (y + l)) (ltb y (r + l)) e in
      let d = eqb-true (x + l) c q.0 in
      let f = leb-true r (y + l) q.1 in
      let m = ltb-true y (r + l) q.2 in
      (omega arith, omega arith, omega arith))

  in_line : (d : Direction) → exists g.n c r d l ≡ true → InLine d
  unfolding exists
  in_line Up e = up_line (ltb-true (r + l) g.n e)
  in_line Right e = right_line (ltb-true (c + l) g.n e)
  in_line Down e = down_line (leb-true l r e)
  in_line Left e = left_line (leb-true l c e)

-- an accepted coordinate lies in a column of the grid, whatever n and side are
pub column_on_grid : (g : Grid) (x : ℕ) → off_grid g x ≡ false → column g x < g.n
unfolding off_grid column
column_on_grid g x e = go g.side (leb-false (g.n * g.side) x e)
  where
    go : (side : ℕ) → x < g.n * side → x / side < g.n
    go zero h = absurd (let z : g.n * 0 ≡ 0 = omega arith in not-suc-le-zero {n = x} (omega arith))
    go (suc s) h = (div-lt_iff_lt-mul {k = suc s} {x = x} {y = g.n} (omega arith)).1 h

pub columns_on_grid : (g : Grid) (q : Point) → bad_point g q ≡ false → (column g q.x < g.n) × (column g q.y < g.n)
unfolding bad_point
columns_on_grid g q e =
    let p = neither (off_grid g q.x) (off_grid g q.y) e in
    (column_on_grid g q.x p.0, column_on_grid g q.y p.1)

-- the tiles of a group that exists, around a point on the grid
pub group_line_law : (g : Grid) (q : Point) (d : Direction) (l : ℕ) → column g q.x < g.n → column g q.y < g.n → group_exists g q d l ≡ true
    → group_tiles g q d l ≡ line_of (group_line g q d l)
unfolding group_exists group_tiles tile_in_group tiles tile_count column_of row_of group_line
group_line_law g q d l hx hy e = in_line g (column g q.x) (column g q.y) l hx hy d e

-- each number of that line is a tile of the grid
pub line_on_grid : (g : Grid) (q : Point) (d : Direction) (l : ℕ) → column g q.x < g.n → column g q.y < g.n → group_exists g q d l ≡ true
    → (j : ℕ) → j < (group_line g q d l).many → (group_line g q d l).start + j * (group_line g q d l).apart < tile_count g
unfolding group_tiles tiles
line_on_grid g q d l hx hy e j h =
    let t = group_line g q d l in
    let m = rw (← group_line_law g q d l hx hy e) at (line_mem t.start t.apart t.many j h) in
    let b = (mem_from 0 (tile_count g) (mem_filter (tile_in_group g q d l) (tiles g) m).0).1 in
    omega arith
