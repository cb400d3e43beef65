-- The walk outward from a point: its groups, what a row brings, start and ask. Document 01, "The walk" and "Refusal numbers".
-- Assumes nothing.
use Rattle.std.specs.Prelude.{Bool, true, false, cond, ◌&&◌, ◌||◌, not, List, [], ◌∷◌, ◌++◌, map, ℕ, zero, suc, ◌+◌, ◌-◌, ◌*◌, ◌/◌, ◌%◌, leb, ltb, eqb, length, take, replicate, Option, Ok, Some, None}
use Rattle.laws.specs.Lists.{filter, each, total, run_for, over}
use Rattle.rules.specs.Sizes.{most_tiles, bad_sizes, bad_point, column, row_of, column_of, tile_count, tiles, tile_of}
use Rattle.rules.specs.Span.{at, cover, gap}
use Rattle.rules.specs.Distance.{sq, square, point, tile_rect}
use Rattle.rules.specs.Register.{count, rectangle, bad_entry}
use Rattle.rules.specs.Tables.{Tables, bad_lengths, tile_runs, run_at, good_runs}
use Rattle.rules.specs.Refusals.{Paper, paper, paper_answer, Verdict, pass, judge, judge_room, unless}
use Rattle.rules.specs.Search.{allowed_runs}
use Rattle.rules.specs.Front.{row, rows, laid, insert_all, directions, encoded, decoded}
use Rattle.rules.specs.declared.Row.{Row}
use Rattle.rules.specs.declared.Grid.{Grid}
use Rattle.rules.specs.declared.Point.{Point}
use Rattle.rules.specs.declared.Refusal.TheVariants.{Sizes, Lengths, Place, Damage}
use Rattle.rules.specs.declared.Direction.{Direction}
use Rattle.rules.specs.declared.Direction.TheVariants.{Up, Right, Down, Left}
use Rattle.rules.specs.declared.Item.{Item}
use Rattle.rules.specs.declared.Item.TheVariants.{Group, Tile, Footprint}
use Rattle.rules.specs.declared.Three.{Three}
use Rattle.rules.specs.declared.Walk.{Walk}

-- ---- groups: c and r are the column and the row of Tq, l the level

-- the group's row or column is on the grid
unfoldable pub exists : ℕ → ℕ → ℕ → Direction → ℕ → Bool
exists n c r Up l = ltb (r + l) n
exists n c r Right l = ltb (c + l) n
exists n c r Down l = leb l r
exists n c r Left l = leb l c

-- up: row +l, columns −l..l−1; right: column +l, rows −l+1..l; down: row −l, columns −l+1..l; left: column −l, rows −l..l−1
unfoldable pub in_group : ℕ → ℕ → Direction → ℕ → ℕ → ℕ → Bool
in_group c r Up l x y = eqb y (r + l) && leb c (x + l) && ltb x (c + l)
in_group c r Right l x y = eqb x (c + l) && ltb r (y + l) && leb y (r + l)
in_group c r Down l x y = eqb (y + l) r && ltb c (x + l) && leb x (c + l)
in_group c r Left l x y = eqb (x + l) c && leb r (y + l) && ltb y (r + l)

unfoldable pub group_exists : Grid → Point → Direction → ℕ → Bool
group_exists g q d l = exists g.n (column g q.x) (column g q.y) d l

unfoldable pub tile_in_group : Grid → Point → Direction → ℕ → ℕ → Bool
tile_in_group g q d l t = in_group (column g q.x) (column g q.y) d l (column_of g t) (row_of g t)

-- the tiles of a group, tiles off the grid left out
unfoldable pub group_tiles : Grid → Point → Direction → ℕ → List ℕ
group_tiles g q d l = filter (tile_in_group g q d l) (tiles g)

-- the gap to the group's row or column alone
unfoldable pub group_gap : Grid → Point → Direction → ℕ → ℕ
group_gap g q Up l = gap (at q.y) (cover g.side (column g q.y + l))
group_gap g q Right l = gap (at q.x) (cover g.side (column g q.x + l))
group_gap g q Down l = gap (at q.y) (cover g.side (column g q.y - l))
group_gap g q Left l = gap (at q.x) (cover g.side (column g q.x - l))

-- ---- waiting rows

unfoldable pub square_of : Grid → List ℕ → Point → Item → ℕ
square_of g reg q (Group d l) = sq (group_gap g q d l)
square_of g reg q (Tile t) = square (point q) (tile_rect g t)
square_of g reg q (Footprint i) = square (point q) (rectangle g reg i)

-- a group, a tile or a footprint as a waiting row
unfoldable pub waiting_row : Grid → List ℕ → Point → Item → Three
waiting_row g reg q i = encoded (row (square_of g reg q i) i)

-- a group, if it exists
unfoldable pub group_if : Grid → Point → ℕ → Direction → List Item
group_if g q l d = cond (group_exists g q d l) (Group d l ∷ []) []

-- a group brings its tiles and the next group of its direction, if that exists
unfoldable pub group_brings : Grid → Point → Direction → ℕ → List Item
group_brings g q d l = map Tile (group_tiles g q d l) ++ group_if g q (l + 1) d

-- a tile brings the footprints of its allowed classes
unfoldable pub tile_brings : Grid → Tables → Point → ℕ → List Item
tile_brings g t q tile = map Footprint (each (run_at t) (allowed_runs g q tile))

-- Tq's footprints of all classes
unfoldable pub start_entries : Grid → Tables → Point → List ℕ
start_entries g t q = each (run_at t) (tile_runs (tile_of g q))

-- the start: those and the level 1 groups, in order
unfoldable pub start_front : Grid → Tables → Point → List Three
start_front g t q = insert_all (map (waiting_row g t.reg q) (map Footprint (start_entries g t q) ++ each (group_if g q 1) directions)) []

-- ---- the first row is taken

-- what a row taken off the front does: it is damage, brings new rows, or is handed out as the numbers that an ask writes
pub data Move : Type 0 where
  damage : Move
  bring : List Three → Move
  hand : List ℕ → Move

abbrev pub damage_if : Bool → Move → Move
damage_if true m = damage
damage_if false m = m

-- the numbers that a given row writes, and how many they are: the footprint and its row's square
abbrev pub row_numbers : ℕ
row_numbers = 2

unfoldable pub row_writes : Grid → List ℕ → Point → ℕ → ℕ → List ℕ
row_writes g reg q i s = i ∷ s ∷ []

-- a group or tile that does not exist, damage in a run that is read and a footprint that no entry may name are damage
unfoldable pub item_move : Grid → Tables → Point → ℕ → Item → Move
item_move g t q s (Group d l) =
    damage_if (eqb l 0 || not (group_exists g q d l)) (bring (map (waiting_row g t.reg q) (group_brings g q d l)))
item_move g t q s (Tile tile) =
    damage_if (leb (tile_count g) tile || not (good_runs g t (allowed_runs g q tile))) (bring (map (waiting_row g t.reg q) (tile_brings g t q tile)))
item_move g t q s (Footprint i) = damage_if (bad_entry g t.reg i) (hand (row_writes g t.reg q i s))

-- so is an unknown kind
abbrev pub read_move : Grid → Tables → Point → Option Row → Move
read_move g t q None = damage
read_move g t q (Some r) = item_move g t q r.square r.item

unfoldable pub move : Grid → Tables → Point → Three → Move
move g t q a = read_move g t q (decoded a)

-- ---- the ask's machine: the first row is taken until no more are wanted, none waits, or damage is met

-- the rows that wait, the numbers given, the rows still wanted, and whether damage was met
pub record Machine : Type 0 where
  pub waiting : List Three
  pub given : List ℕ
  pub wanted : ℕ
  pub damaged : Bool

abbrev pub machine : List Three → List ℕ → ℕ → Bool → Machine
machine w o j b = record { waiting = w; given = o; wanted = j; damaged = b }

-- nothing of an ask that met damage is kept
abbrev pub spoiled : Machine
spoiled = machine [] [] 0 true

abbrev pub halts : Bool → ℕ → List Three → Bool
halts true j w = true
halts false zero w = true
halts false (suc j) [] = true
halts false (suc j) (a ∷ w) = false

abbrev pub halted : Machine → Bool
halted m = halts m.damaged m.wanted m.waiting

-- a row is off a front of so many whole rows, and j more are wanted after one that is handed out; no room for a new row is damage
abbrev pub after_move : ℕ → Move → ℕ → List Three → List ℕ → Machine
after_move whole damage j w o = spoiled
after_move whole (bring new) j w o = cond (leb (length w + length new) whole) (machine (insert_all new w) o (suc j) false) spoiled
after_move whole (hand numbers) j w o = machine w (o ++ numbers) j false

-- a machine that has halted stands still
abbrev pub turn : (Three → Move) → ℕ → Bool → ℕ → List Three → List ℕ → Machine
turn mv whole true j w o = machine w o j true
turn mv whole false zero w o = machine w o zero false
turn mv whole false (suc j) [] o = machine [] o (suc j) false
turn mv whole false (suc j) (a ∷ w) o = after_move whole (mv a) j w o

unfoldable pub step : (Three → Move) → ℕ → Machine → Machine
step mv whole m = turn mv whole m.damaged m.wanted m.waiting m.given

-- ---- how many steps are enough: a row weighs more than all that it can bring

unfoldable pub tile_weight : Tables → ℕ
tile_weight t = 1 + 16 * length t.entries

unfoldable pub group_weight : Grid → Tables → ℕ
group_weight g t = 1 + tile_count g * tile_weight t

unfoldable pub weight : Grid → Tables → Three → ℕ
weight g t a =
    cond (eqb a.kind 0) (1 + (most_tiles - a.number % 64) * group_weight g t) (cond (eqb a.kind 1) (tile_weight t) 1)

unfoldable pub finish : Grid → Tables → Point → ℕ → Machine → Machine
finish g t q whole m = run_for halted (step (move g t q) whole) (total (weight g t) m.waiting) m

-- ---- start: refusals 1, 2, 4, 7, 6

abbrev pub walk_at : Point → ℕ → Bool → Walk
walk_at q waiting damaged = record { x = q.x; y = q.y; waiting = waiting; damaged = damaged }

-- a refused start gives point 0, 0, count 0 and the mark set
abbrev pub refused_walk : Walk
refused_walk = record { x = 0; y = 0; waiting = 0; damaged = true }

-- 3×(footprints+n²+4)
unfoldable pub start_room : Grid → List ℕ → ℕ
start_room g reg = 3 * (count reg + tile_count g + 4)

-- damage in Tq's runs, or more entries in them than footprints
unfoldable pub bad_start : Grid → Tables → Point → Bool
bad_start g t q = not (good_runs g t (tile_runs (tile_of g q))) || ltb (count t.reg) (length (start_entries g t q))

unfoldable pub start_verdict : Grid → Tables → Point → List ℕ → Verdict
start_verdict g t q front =
    judge (bad_sizes g) Sizes
    (judge (bad_lengths g t) Lengths
    (judge (bad_point g q) Place
    (judge (bad_start g t q) Damage
    (judge_room (start_room g t.reg) front pass))))

-- the answer, the state and the front after a start
unfoldable pub begun : Grid → Tables → Point → List ℕ → Paper × Walk × List ℕ
begun g t q front =
    unless (start_verdict g t q front) (λ r. (paper r, refused_walk, front))
    (paper_answer (Ok 0), walk_at q (length (start_front g t q)) false, laid (length front) (start_front g t q))

-- ---- ask: refusals 1, 2, 4, 6, 7

abbrev pub walk_point : Walk → Point
walk_point w = record { x = w.x; y = w.y }

-- what leaves all as it was
unfoldable pub ask_verdict : Grid → Tables → Walk → ℕ → List ℕ → Verdict
ask_verdict g t w j out =
    judge (bad_sizes g) Sizes
    (judge (bad_lengths g t) Lengths
    (judge (bad_point g (walk_point w)) Place
    (judge_room (row_numbers * j) out pass)))

-- the whole rows that a front has
unfoldable pub whole_rows : List ℕ → ℕ
whole_rows front = length front / 3

-- the damage mark, or a waiting count beyond the front's whole rows
unfoldable pub bad_walk : Walk → List ℕ → Bool
bad_walk w front = w.damaged || ltb (whole_rows front) w.waiting

-- the machine as an ask leaves it
unfoldable pub ask_machine : Grid → Tables → List ℕ → Walk → ℕ → Machine
ask_machine g t front w j =
    cond (bad_walk w front) spoiled
    (finish g t (walk_point w) (whole_rows front) (machine (take w.waiting (rows front)) [] j false))

-- the answer, the state, the front and the output: 7 sets the mark and the count to 0, and fills the front and the numbers asked for with 0
unfoldable pub ask_outcome : Walk → List ℕ → ℕ → List ℕ → Machine → Paper × Walk × List ℕ × List ℕ
ask_outcome w front j out m =
    cond m.damaged
    (paper Damage, walk_at (walk_point w) 0 true, replicate (length front) 0, over (replicate (row_numbers * j) 0) out)
    (paper_answer (Ok (j - m.wanted)), walk_at (walk_point w) (length m.waiting) false, laid (length front) m.waiting, over m.given out)

-- the answer, the state, the front and the output after an ask
unfoldable pub asks : Grid → Tables → List ℕ → Walk → ℕ → List ℕ → Paper × Walk × List ℕ × List ℕ
asks g t front w j out =
    unless (ask_verdict g t w j out) (λ r. (paper r, w, front, out)) (ask_outcome w front j out (ask_machine g t front w j))
