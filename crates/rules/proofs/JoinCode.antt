-- The join as its loops go: S's tiles around R's by their nine positions, in order, and the pairs of two runs. For tables of any origin.
-- Assumes nothing.
use mathlib.Core.Path.{◌≡◌, refl, sym, ap, ap₂, ◌∙◌}
use mathlib.Core.Bool.{Bool, true, false, ◌&&◌}
use mathlib.Core.List.{List, [], ◌∷◌, map}
use Prim.Native.Nat.{ℕ, ◌+◌, ◌-◌, ◌*◌, ◌/◌, ◌%◌, ◌≤◌, ◌<◌}
use native.Mathlib.Nat.{div-add-mod', div-lt_iff_lt-mul, mod-lt}
use native.Mathlib.Omega.{arith}
use lib.Dec.{leb}
use borrow.Author.Tests.{le-leb, lt-leb, leb-true}
use Rattle.laws.specs.Lists.{filter, from, up_to, each, only}
use Rattle.laws.proofs.Tests.{by_le, fst_true, snd_true, both_true}
use Rattle.laws.proofs.Lists.{filter_each, each_same, only_each, only_only, pairs_filter}
use Rattle.laws.proofs.Rows.{each_each, each_map, each_alone, filter_is_each, each_rows, window}
use Rattle.rules.specs.Sizes.{tile_no, row_of, column_of, tile_count, tiles}
use Rattle.rules.specs.Tables.{Tables, run_at}
use Rattle.rules.specs.Join.{Pair, beside, neighbours, lists, run_pairs}
use Rattle.rules.specs.JoinSteps.{reaches, has_tile, tile_at}
use Rattle.rules.specs.declared.Grid.{Grid}
use Rattle.rules.proofs.Good.{GoodSizes}
use Rattle.rules.proofs.Report.{tile_below}

-- ---- one dimension

-- the columns beside c, by their offset
module _ (n c : ℕ) (h : c < n) where
  abbrev offset : ℕ → List ℕ
  offset d = only (reaches n c d) ((c + d - 1) ∷ [])

  none_below : (j : ℕ) → j < c - 1 → beside c j ≡ false
  unfolding beside
  none_below j k = rw (lt-leb c (j + 1) (omega arith))

  all_beside : (j : ℕ) → c - 1 ≤ j → j ≤ c + 1 → beside c j ≡ true
  unfolding beside
  all_beside j k l = rw (le-leb c (j + 1) (omega arith), le-leb j (c + 1) (omega arith))

  none_above : (j : ℕ) → c + 1 < j → beside c j ≡ false
  unfolding beside
  none_above j k = rw (le-leb c (j + 1) (omega arith), lt-leb j (c + 1) (omega arith))

  on : (d : ℕ) → 1 ≤ c + d → c + d ≤ n → reaches n c d ≡ true
  unfolding reaches
  on d k l = both_true (le-leb _ _ k) (le-leb _ _ l)

  off_low : (d : ℕ) → c + d < 1 → reaches n c d ≡ false
  unfolding reaches
  off_low d k = rw (lt-leb 1 (c + d) k)

  off_high : (d : ℕ) → n < c + d → reaches n c d ≡ false
  unfolding reaches
  off_high d k = rw (le-leb 1 (c + d) (omega arith), lt-leb (c + d) n k)

  -- k columns from c−1 on
  columns : (k m : ℕ) → c - 1 + k + m ≡ n → c - 1 + k ≤ c + 2 → (0 < m → c + 2 ≤ c - 1 + k) → filter (beside c) (up_to n) ≡ from (c - 1) k
  columns k m e short far =
      ap (λ (x : ℕ). filter (beside c) (up_to x)) (sym e)
      ∙ window (beside c) (c - 1) k m none_below (λ j u v. all_beside j u (omega arith)) (λ j u v. none_above j (beyond j u v (far (some j u v))))
    where
      some : (j : ℕ) → c - 1 + k ≤ j → j < c - 1 + k + m → 0 < m
      some j u v = omega arith

      beyond : (j : ℕ) → c - 1 + k ≤ j → j < c - 1 + k + m → c + 2 ≤ c - 1 + k → c + 1 < j
      beyond j u v w = omega arith

  pub beside_by_offset : filter (beside c) (up_to n) ≡ each offset (up_to 3)
  beside_by_offset =
      by_le 1 c
      (λ some. by_le (c + 2) n
      (λ more.
      columns 3 (n - (c + 2)) (omega arith) (omega arith) (λ k. omega arith)
      ∙ rw (on 0 (omega arith) (omega arith), on 1 (omega arith) (omega arith), on 2 (omega arith) (omega arith)) (three (omega arith) (omega arith) (omega arith)))
      (λ last.
      columns 2 0 (omega arith) (omega arith) (λ k. omega arith)
      ∙ rw (on 0 (omega arith) (omega arith), on 1 (omega arith) (omega arith), off_high 2 (omega arith)) (two (omega arith) (omega arith))))
      (λ first. by_le (c + 2) n
      (λ more.
      columns 2 (n - (c + 2)) (omega arith) (omega arith) (λ k. omega arith)
      ∙ rw (off_low 0 (omega arith), on 1 (omega arith) (omega arith), on 2 (omega arith) (omega arith)) (two (omega arith) (omega arith)))
      (λ last.
      columns 1 0 (omega arith) (omega arith) (λ k. omega arith)
      ∙ rw (off_low 0 (omega arith), on 1 (omega arith) (omega arith), off_high 2 (omega arith)) (one (omega arith))))
    where
      one : {a a' : ℕ} → a ≡ a' → a ∷ [] ≡ a' ∷ []
      one e = ap (λ (x : ℕ). x ∷ []) e

      two : {a b a' b' : ℕ} → a ≡ a' → b ≡ b' → a ∷ b ∷ [] ≡ a' ∷ b' ∷ []
      two e f = ap₂ (λ (x : ℕ) (l : List ℕ). x ∷ l) e (one f)

      three : {a b c a' b' c' : ℕ} → a ≡ a' → b ≡ b' → c ≡ c' → a ∷ b ∷ c ∷ [] ≡ a' ∷ b' ∷ c' ∷ []
      three e f k = ap₂ (λ (x : ℕ) (l : List ℕ). x ∷ l) e (two f k)

-- ---- the nine positions

module _ (g : Grid) (ok : GoodSizes g) (t : ℕ) (h : t < tile_count g) where
  abbrev row : ℕ
  row = row_of g t

  abbrev col : ℕ
  col = column_of g t

  row_inside : row < g.n
  unfolding row_of tile_count
  row_inside = (div-lt_iff_lt-mul ok.n_pos).1 h

  col_inside : col < g.n
  unfolding column_of
  col_inside = mod-lt t ok.n_pos

  -- a tile, where both its row and its column pass
  abbrev tile_if : ℕ → ℕ → List ℕ
  tile_if r c = tile_no g r c ∷ []

  by_rows : filter (neighbours g t) (tiles g)
      ≡ each (λ r. each (λ c. only (beside row r) (only (beside col c) (tile_if r c))) (up_to g.n)) (up_to g.n)
  unfolding tiles tile_count neighbours tile_no row_of column_of
  by_rows =
      filter_is_each (neighbours g t) (up_to (g.n * g.n))
      ∙ each_same _ (λ k. f (k / g.n) (k % g.n)) (up_to (g.n * g.n)) (λ k. at k)
      ∙ sym (each_rows f g.n g.n)
    where
      f : ℕ → ℕ → List ℕ
      f r c = only (beside row r) (only (beside col c) (tile_if r c))

      at : (k : ℕ) → only (neighbours g t k) (k ∷ []) ≡ f (k / g.n) (k % g.n)
      at k =
          apart (beside col (k % g.n)) (beside row (k / g.n)) (k ∷ [])
          ∙ ap (λ (x : ℕ). only (beside row (k / g.n)) (only (beside col (k % g.n)) (x ∷ []))) (sym (div-add-mod' k g.n))
        where
          apart : (a b : Bool) (l : List ℕ) → only (a && b) l ≡ only b (only a l)
          apart true true l = refl
          apart true false l = refl
          apart false true l = refl
          apart false false l = refl

  pub neighbours_by_position : filter (neighbours g t) (tiles g) ≡ each (λ p. only (has_tile g t p) (tile_at g t p ∷ [])) (up_to 9)
  unfolding has_tile tile_at
  neighbours_by_position =
      by_rows
      ∙ sym (pairs_filter (beside row) (beside col) tile_if (up_to g.n) (up_to g.n))
      ∙ ap₂ (λ (l m : List ℕ). each (λ r. each (tile_if r) m) l) (beside_by_offset g.n row row_inside) (beside_by_offset g.n col col_inside)
      ∙ each_each (λ r. each (tile_if r) (each (offset g.n col col_inside) (up_to 3))) (offset g.n row row_inside) (up_to 3)
      ∙ each_same _ _ (up_to 3) (λ y.
      each_alone (λ r. each (tile_if r) (each (offset g.n col col_inside) (up_to 3))) (reaches g.n row y) (row + y - 1)
      ∙ ap (only (reaches g.n row y))
      (each_each (tile_if (row + y - 1)) (offset g.n col col_inside) (up_to 3)
      ∙ each_same _ _ (up_to 3) (λ x. each_alone (tile_if (row + y - 1)) (reaches g.n col x) (col + x - 1)))
      ∙ only_each (reaches g.n row y) (λ x. only (reaches g.n col x) (tile_if (row + y - 1) (col + x - 1))) (up_to 3)
      ∙ each_same _ _ (up_to 3) (λ x. only_only (reaches g.n row y) (reaches g.n col x) (tile_if (row + y - 1) (col + x - 1))))
      ∙ each_rows (λ y x. only (reaches g.n row y && reaches g.n col x) (tile_if (row + y - 1) (col + x - 1))) 3 3

  module _ (p : ℕ) (k : p < 9) (e : has_tile g t p ≡ true) where
    reaches_row : reaches g.n row (p / 3) ≡ true
    unfolding has_tile
    reaches_row = fst_true (reaches g.n row (p / 3)) _ e

    reaches_col : reaches g.n col (p % 3) ≡ true
    unfolding has_tile
    reaches_col = snd_true (reaches g.n row (p / 3)) _ e

    inside : (c d : ℕ) → d < 3 → reaches g.n c d ≡ true → c + d - 1 < g.n
    unfolding reaches
    inside c d l e =
        let a : 1 ≤ c + d = leb-true _ _ (fst_true (leb 1 (c + d)) _ e) in
        let b : c + d ≤ g.n = leb-true _ _ (snd_true (leb 1 (c + d)) _ e) in
        omega arith

    -- the tile at a position is on the grid
    pub tile_at_below : tile_at g t p < tile_count g
    unfolding tile_at
    tile_at_below =
        tile_below g ok.side_pos (row + p / 3 - 1) (col + p % 3 - 1)
        (inside row (p / 3) (omega arith) reaches_row) (inside col (p % 3) (omega arith) reaches_col)

-- ---- the loops

module _ (g : Grid) (tr ts : Tables) (r : ℕ) where
  -- the pairs of two runs, by R's number and S's
  pub run_pairs_by_two : (k m : ℕ)
      → run_pairs g tr ts r k m ≡ each (λ i. each (λ j. only (lists g tr.reg ts.reg r k m (i, j)) ((i, j) ∷ [])) (run_at ts m)) (run_at tr k)
  unfolding run_pairs
  run_pairs_by_two k m =
      filter_each p _ (run_at tr k)
      ∙ each_same _ _ (run_at tr k) (λ i. filter_is_each p (map (λ (j : ℕ). (i, j)) (run_at ts m)) ∙ each_map (λ z. only (p z) (z ∷ [])) (λ j. (i, j)) (run_at ts m))
    where
      p : Pair → Bool
      p = lists g tr.reg ts.reg r k m
