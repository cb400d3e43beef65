-- The pairs that each loop of a join finds, from one number of R up to R's tile, and what was judged before. Assumes nothing.
use Rattle.std.specs.Prelude.{◌≡◌, Bool, true, false, List, [], ◌∷◌, ℕ, eqb}
use Rattle.laws.specs.Lists.{filter, up_to, each, only}
use Rattle.rules.specs.Sizes.{bad_sizes, row_of, column_of, tiles}
use Rattle.rules.specs.Span.{place}
use Rattle.rules.specs.Classes.{marked_in}
use Rattle.rules.specs.Tables.{Tables, bad_lengths, run_no, runs, run_start, run_at, good_runs}
use Rattle.rules.specs.Join.{Pair, neighbours, lists, tile_pairs}
use Rattle.rules.specs.JoinSteps.{has_tile, tile_at}
use Rattle.rules.specs.declared.Grid.{Grid}
use Rattle.grid.specs.Places.{position}

-- a side has the right lengths and shows no damage
pub record Sound (g : Grid) (t : Tables) : Type 0 where
  pub lengths : bad_lengths g t ≡ false
  pub all_good : good_runs g t (up_to (runs g)) ≡ true

-- both sides passed every judge of a join
pub record Judged (g : Grid) (tr ts : Tables) : Type 0 where
  pub sizes : bad_sizes g ≡ false
  pub of_r : Sound g tr
  pub of_s : Sound g ts

-- the sixteen runs of a tile begin where those of the next begin
unfoldable pub bare_tile : List ℕ → ℕ → Bool
bare_tile starts t = eqb (run_start starts (run_no t 0)) (run_start starts (run_no t 16))

-- ---- where S's tile u lies from R's tile t: by the sign of the offset, for any two tiles

unfoldable pub position_of : Grid → ℕ → ℕ → ℕ
position_of g t u = position (place (column_of g u) (column_of g t)) (place (row_of g u) (row_of g t))

-- ---- the pairs of each loop

-- R's number i and S's number j of the runs k and m, where they are listed
unfoldable pub one_pair : Grid → List ℕ → List ℕ → ℕ → ℕ → ℕ → ℕ → ℕ → List Pair
one_pair g reg_r reg_s r k m i j = only (lists g reg_r reg_s r k m (i, j)) ((i, j) ∷ [])

-- R's number i with the numbers of a run of S
unfoldable pub entry_pairs : Grid → List ℕ → List ℕ → ℕ → ℕ → ℕ → ℕ → List ℕ → List Pair
entry_pairs g reg_r reg_s r k m i l = each (one_pair g reg_r reg_s r k m i) l

-- the numbers of a run of R with those of a run of S
unfoldable pub runs_pairs : Grid → List ℕ → List ℕ → ℕ → ℕ → ℕ → List ℕ → List ℕ → List Pair
runs_pairs g reg_r reg_s r k m lr ls = each (λ i. entry_pairs g reg_r reg_s r k m i ls) lr

-- R's run of class a in tile t, whose numbers are l, with S's run of class b in tile u, where the two are joined
unfoldable pub marked_pairs : Grid → List ℕ → Tables → ℕ → ℕ → ℕ → ℕ → List ℕ → ℕ → List Pair
marked_pairs g reg_r ts r t u a l b = only (marked_in g t u a b) (runs_pairs g reg_r ts.reg r (run_no t a) (run_no u b) l (run_at ts (run_no u b)))

-- R's tile t with S's tile at position p from it, if there is one
unfoldable pub pairs_at : Grid → Tables → Tables → ℕ → ℕ → ℕ → List Pair
pairs_at g tr ts r t p = only (has_tile g t p) (tile_pairs g tr ts r t (tile_at g t p))

-- R's tile t with all of S's that are visited
unfoldable pub around_pairs : Grid → Tables → Tables → ℕ → ℕ → List Pair
around_pairs g tr ts r t = each (tile_pairs g tr ts r t) (filter (neighbours g t) (tiles g))
