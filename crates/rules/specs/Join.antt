-- The join of two registers: its pairs by the steps, for tables of any origin, its promise, and the pairs that two registers declare.
-- Document 01, "Join" and "Refusal numbers". Assumes nothing.
use Rattle.std.specs.Prelude.{Bool, ◌&&◌, ◌||◌, not, List, [], ◌∷◌, ℕ, ◌+◌, leb, ltb, eqb, length}
use Rattle.laws.specs.Lists.{filter, up_to, each}
use Rattle.laws.specs.Pairs.{pairs}
use Rattle.rules.specs.Sizes.{bad_sizes, row_of, column_of, tiles}
use Rattle.rules.specs.Distance.{within}
use Rattle.rules.specs.Classes.{classes, marked_in}
use Rattle.rules.specs.Register.{footprints, rectangle}
use Rattle.rules.specs.Tables.{Tables, bad_lengths, run_no, runs, run_at, good_runs}
use Rattle.rules.specs.Refusals.{Paper, paper, Verdict, pass, judge, unless, fit}
use Rattle.rules.specs.Search.{report_run}
use Rattle.rules.specs.declared.Grid.{Grid}
use Rattle.rules.specs.declared.Point.{Point}
use Rattle.rules.specs.declared.Rect.{Rect}
use Rattle.rules.specs.declared.Refusal.TheVariants.{Sizes, Lengths, Radius, Damage}

-- a number of R and a number of S
abbrev pub Pair : Type 0
Pair = ℕ × ℕ

-- two columns or rows with an offset in −1..1
unfoldable pub beside : ℕ → ℕ → Bool
beside c d = leb c (d + 1) && leb d (c + 1)

-- the tile pairs that are visited: S's tile u is R's tile t or beside it
unfoldable pub neighbours : Grid → ℕ → ℕ → Bool
neighbours g t u = beside (column_of g t) (column_of g u) && beside (row_of g t) (row_of g u)

-- ---- the pairs by the steps

-- footprint i of R and j of S, met in the joined runs k and m, are listed: they are within r
unfoldable pub lists : Grid → List ℕ → List ℕ → ℕ → ℕ → ℕ → Pair → Bool
lists g reg_r reg_s r k m p = within r (rectangle g reg_r p.0) (rectangle g reg_s p.1)

-- the listed pairs of two runs
unfoldable pub run_pairs : Grid → Tables → Tables → ℕ → ℕ → ℕ → List Pair
run_pairs g tr ts r k m = filter (lists g tr.reg ts.reg r k m) (pairs (run_at tr k) (run_at ts m))

-- of R's class a in tile t, and of all classes of S that are joined to it in tile u
unfoldable pub class_pairs : Grid → Tables → Tables → ℕ → ℕ → ℕ → ℕ → List Pair
class_pairs g tr ts r t u a = each (λ b. run_pairs g tr ts r (run_no t a) (run_no u b)) (filter (marked_in g t u a) classes)

-- of R's tile t and S's tile u
unfoldable pub tile_pairs : Grid → Tables → Tables → ℕ → ℕ → ℕ → List Pair
tile_pairs g tr ts r t u = each (class_pairs g tr ts r t u) classes

-- ordered by R tile, S tile, R class, S class, R number, S number
unfoldable pub join_pairs : Grid → Tables → Tables → ℕ → List Pair
join_pairs g tr ts r = each (λ t. each (tile_pairs g tr ts r t) (filter (neighbours g t) (tiles g))) (tiles g)

-- the numbers that a pair writes
unfoldable pub pair_writes : Pair → List ℕ
pair_writes p = p.0 ∷ p.1 ∷ []

-- ---- the promise: refusals 1, 2, 5, 7, 6; a join reads every run of both registers

unfoldable pub join_verdict : Grid → Tables → Tables → ℕ → Verdict
join_verdict g tr ts r =
    judge (bad_sizes g) Sizes
    (judge (bad_lengths g tr || bad_lengths g ts) Lengths
    (judge (ltb g.side r) Radius
    (judge (not (good_runs g tr (up_to (runs g)) && good_runs g ts (up_to (runs g)))) Damage pass)))

-- the answer, and the output after a join
unfoldable pub joins : Grid → Tables → Tables → ℕ → List ℕ → Paper × List ℕ
joins g tr ts r out =
    unless (join_verdict g tr ts r) (λ v. (paper v, out))
    (fit (length (join_pairs g tr ts r)) (each pair_writes (join_pairs g tr ts r)) out)

-- ---- what it is for two registers: each pair within r at its one pair of runs

-- the corner where a rectangle begins
unfoldable pub corner : Rect → Point
corner a = record { x = a.x.lo; y = a.y.lo }

-- the pair of runs that is joined for two rectangles: per dimension each one's first column or row drawn into the other's
unfoldable pub pair_runs : Grid → Rect → Rect → Pair
pair_runs g a b = (report_run g (corner b) a, report_run g (corner a) b)

-- the pair is joined in runs k and m, and is within r
unfoldable pub paired_in : Grid → List ℕ → List ℕ → ℕ → ℕ → ℕ → Pair → Bool
paired_in g reg_r reg_s r k m p =
    eqb k (pair_runs g (rectangle g reg_r p.0) (rectangle g reg_s p.1)).0
    && eqb m (pair_runs g (rectangle g reg_r p.0) (rectangle g reg_s p.1)).1
    && within r (rectangle g reg_r p.0) (rectangle g reg_s p.1)

-- by R tile, S tile, R class, S class, R number, S number
unfoldable pub declared_pairs : Grid → List ℕ → List ℕ → ℕ → List Pair
declared_pairs g reg_r reg_s r =
    each (λ t. each (λ u. each (λ a. each (λ b.
    filter (paired_in g reg_r reg_s r (run_no t a) (run_no u b)) (pairs (footprints reg_r) (footprints reg_s)))
    classes) classes) (tiles g)) (tiles g)
