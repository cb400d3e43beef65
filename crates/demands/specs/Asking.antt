-- A walk as its caller makes it, a start and then asks one after the other, and what document 01 says of it on built tables.
-- Assumes nothing.
use Rattle.std.specs.Prelude.{Bool, true, false, ◌&&◌, ◌||◌, List, [], ◌∷◌, ◌++◌, map, ℕ, ◌*◌, ltb, eqb, length, take, drop, get_or, Ok}
use Rattle.laws.specs.Lists.{each, over, total}
use Rattle.rules.specs.Tables.{Tables}
use Rattle.rules.specs.Refusals.{Paper, paper_answer}
use Rattle.rules.specs.Front.{laid}
use Rattle.rules.specs.Walk.{start_front, row_numbers, row_writes, walk_at, begun, asks}
use Rattle.rules.specs.Waits.{front_after, nearest}
use Rattle.rules.specs.declared.Grid.{Grid}
use Rattle.rules.specs.declared.Point.{Point}
use Rattle.rules.specs.declared.Three.{Three}
use Rattle.rules.specs.declared.Walk.{Walk}

-- ---- what a caller does

-- the rows wanted, and the output lent for them
pub record Ask : Type 0 where
  pub wanted : ℕ
  pub output : List ℕ

-- the answer, the state and the front that a start leaves
abbrev pub Begun : Type 0
Begun = Paper × Walk × List ℕ

-- the answer, the state, the front and the output that an ask leaves
abbrev pub Asked : Type 0
Asked = Paper × Walk × List ℕ × List ℕ

-- asks one after the other, each on the state and the front that the one before it left
unfoldable pub ask_all : Grid → Tables → Walk → List ℕ → List Ask → List Asked
ask_all g t w front [] = []
ask_all g t w front (a ∷ more) =
    let r = asks g t front w a.wanted a.output in
    r ∷ ask_all g t r.1 r.2 more

-- a start, and asks after it
unfoldable pub walks : Grid → Tables → Point → List ℕ → List Ask → Begun × List Asked
walks g t q front l =
    let s = begun g t q front in
    (s, ask_all g t s.1 s.2 l)

-- the numbers that an ask gave: those of as many rows as its answer counts
unfoldable pub numbers_given : Asked → List ℕ
numbers_given r = take (row_numbers * get_or r.0.values 0 0) r.3

-- an ask met damage
unfoldable pub met_damage : Asked → Bool
met_damage r = eqb r.0.number 7

-- the rows wanted in all
unfoldable pub wanted_in_all : List Ask → ℕ
wanted_in_all l = total (λ a. a.wanted) l

-- ---- what is promised of it

-- the numbers of rows that are given, one row behind the other
unfoldable pub rows_written : Grid → List ℕ → Point → List Three → List ℕ
rows_written g reg q l = each (λ a. row_writes g reg q a.number a.square) l

-- the square of the last row, or d where there is none
unfoldable pub last_square : ℕ → List Three → ℕ
last_square d [] = d
last_square d (a ∷ l) = last_square a.square l

-- what waits after the rows given: from a short ask on nothing; before any row the start; else what is named for the last row's square
unfoldable pub waiting_now : Grid → Tables → Point → List Three → Bool → List Three
waiting_now g t q given true = []
waiting_now g t q [] false = start_front g t q
waiting_now g t q (a ∷ l) false = front_after g t.reg q (last_square a.square l) (a.number ∷ map (λ (b : Three). b.number) l)

-- what asks leave in a front of so many numbers, after some rows given and perhaps a short ask: each gives the next rows of all footprints
-- by square, then number, as many as it wants or all that are left; other output is unchanged; then what waits is as above, and the state
-- has the point, the count of those rows and no mark
unfoldable pub promised : Grid → Tables → Point → ℕ → List Three → Bool → List Ask → List Asked
promised g t q size given short [] = []
promised g t q size given short (a ∷ more) =
    let new = take a.wanted (drop (length given) (nearest g t.reg q)) in
    let ended = short || ltb (length new) a.wanted in
    let waiting = waiting_now g t q (given ++ new) ended in
    (paper_answer (Ok (length new)), walk_at q (length waiting) false, laid size waiting, over (rows_written g t.reg q new) a.output)
    ∷ promised g t q size (given ++ new) ended more

-- ---- all footprints by square, then number

unfoldable pub nearer : Three → Three → Bool
nearer a b = ltb a.square b.square || eqb a.square b.square && ltb a.number b.number

-- each row is nearer than the next
unfoldable pub ascends : List Three → Bool
ascends [] = true
ascends (a ∷ []) = true
ascends (a ∷ b ∷ l) = nearer a b && ascends (b ∷ l)
