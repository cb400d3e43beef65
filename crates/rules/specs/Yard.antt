-- Yard Y: the starred cases as one table, about the promises. Assumes nothing.
use Rattle.std.specs.Prelude.{List, [], ◌∷◌, ◌++◌, ℕ, ◌*◌, replicate}
use Rattle.rules.specs.Classes.{class_of}
use Rattle.rules.specs.Register.{rectangle}
use Rattle.rules.specs.Tables.{Tables, built_tables}
use Rattle.rules.specs.Refusals.{Paper, says}
use Rattle.rules.specs.Build.{builds}
use Rattle.rules.specs.Search.{searches}
use Rattle.rules.specs.Join.{joins}
use Rattle.rules.specs.Walk.{begun, asks}
use Rattle.rules.specs.declared.Grid.{Grid}
use Rattle.rules.specs.declared.Point.{Point}

-- n 4, side 100
unfoldable pub yard : Grid
yard = record { n = 4; side = 100 }

unfoldable pub Y : List ℕ
Y =
    120 ∷ 120 ∷ 180 ∷ 180
    ∷ 50 ∷ 220 ∷ 250 ∷ 260
    ∷ 199 ∷ 200 ∷ 200 ∷ 299
    ∷ 0 ∷ 0 ∷ 399 ∷ 399
    ∷ 300 ∷ 300 ∷ 300 ∷ 300 ∷ []

unfoldable pub dig : List ℕ
dig = 100 ∷ 100 ∷ 149 ∷ 149 ∷ []

abbrev pub pt : ℕ → ℕ → Point
pt x y = record { x = x; y = y }

-- a register's tables as the build left them, one entry past the count
unfoldable pub built : List ℕ → Tables
built reg = built_tables yard reg (7 ∷ [])

-- what a case asks: each with so many numbers lent, all of them 7
pub data Question : Type 0 where
  build : List ℕ → ℕ → Question
  class : ℕ → ℕ → Question
  search : List ℕ → ℕ → ℕ → ℕ → ℕ → Question
  start : ℕ → ℕ → ℕ → Question
  walk : ℕ → ℕ → ℕ → Question
  join : List ℕ → ℕ → ℕ → Question

-- the answer on paper, and what the caller lent for it, afterwards (of a build, nothing)
unfoldable pub answered : Question → Paper × List ℕ
answered (build reg room) = ((builds yard reg (replicate 257 7) (replicate room 7)).0, [])
answered (class i t) = (says 0 (class_of yard t (rectangle yard Y i) ∷ []), [])
answered (search reg x y r room) = searches yard (built reg) (pt x y) r (replicate room 7)
answered (start x y room) =
    ((begun yard (built Y) (pt x y) (replicate room 7)).0, (begun yard (built Y) (pt x y) (replicate room 7)).2)
answered (walk x y j) =
    let s = begun yard (built Y) (pt x y) (replicate 75 7) in
    let a = asks yard (built Y) s.2 s.1 j (replicate (2 * j) 7) in
    (a.0, a.3)
answered (join reg r room) = joins yard (built reg) (built Y) r (replicate room 7)

pub record Case : Type 0 where
  pub asked : Question
  pub answer : Paper × List ℕ

abbrev pub case : Question → ℕ → List ℕ → List ℕ → Case
case q k vs l = record { asked = q; answer = (says k vs, l) }

-- *1 to *12
unfoldable pub cases : List Case
cases =
    case (build Y 23) 0 (23 ∷ []) []
    ∷ case (build Y 22) 6 (23 ∷ []) []
    ∷ case (class 1 8) 0 (4 ∷ []) []
    ∷ case (class 1 9) 0 (12 ∷ []) []
    ∷ case (class 1 10) 0 (8 ∷ []) []
    ∷ case (class 3 0) 0 (5 ∷ []) []
    ∷ case (class 3 5) 0 (15 ∷ []) []
    ∷ case (class 3 15) 0 (10 ∷ []) []
    ∷ case (search Y 150 150 69 5) 0 (2 ∷ []) (0 ∷ 3 ∷ 7 ∷ 7 ∷ 7 ∷ [])
    ∷ case (search Y 150 150 70 5) 0 (3 ∷ []) (0 ∷ 3 ∷ 1 ∷ 7 ∷ 7 ∷ [])
    ∷ case (search Y 150 150 71 5) 0 (4 ∷ []) (0 ∷ 3 ∷ 2 ∷ 1 ∷ 7 ∷ [])
    ∷ case (search Y 150 150 0 5) 0 (2 ∷ []) (0 ∷ 3 ∷ 7 ∷ 7 ∷ 7 ∷ [])
    ∷ case (walk 150 150 7) 0 (5 ∷ []) (0 ∷ 0 ∷ 3 ∷ 0 ∷ 1 ∷ 4900 ∷ 2 ∷ 4901 ∷ 4 ∷ 45000 ∷ 7 ∷ 7 ∷ 7 ∷ 7 ∷ [])
    ∷ case (start 150 150 75) 0 (0 ∷ [])
    ((0 ∷ 2 ∷ 0 ∷ 0 ∷ 2 ∷ 3 ∷ 2500 ∷ 0 ∷ 1 ∷ 2500 ∷ 0 ∷ 65 ∷ 2601 ∷ 0 ∷ 129 ∷ 2601 ∷ 0 ∷ 193 ∷ []) ++ replicate 57 0)
    ∷ case (start 150 150 74) 6 (75 ∷ []) (replicate 74 7)
    ∷ case (join dig 100 8) 0 (4 ∷ []) (0 ∷ 0 ∷ 0 ∷ 3 ∷ 0 ∷ 2 ∷ 0 ∷ 1 ∷ [])
    ∷ case (join dig 101 1) 5 [] (7 ∷ [])
    ∷ case (search Y 400 0 0 1) 4 [] (7 ∷ [])
    ∷ case (search Y 399 399 0 1) 0 (1 ∷ []) (3 ∷ [])
    ∷ case (build [] 0) 0 (0 ∷ []) []
    ∷ case (search [] 150 150 2097151 1) 0 (0 ∷ []) (7 ∷ [])
    ∷ []
