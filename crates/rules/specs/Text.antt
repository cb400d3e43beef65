-- The text register: its lines, the numbers that they say, the first bad or missing line, and what the program prints for every text.
-- Document 01, "The text program". Assumes nothing.
use Rattle.std.specs.Prelude.{Bool, true, false, ◌&&◌, ◌||◌, not, cond, List, [], ◌∷◌, ◌++◌, ℕ, zero, suc, ◌+◌, ◌-◌, ◌*◌, ◌/◌, ◌%◌, leb, ltb, eqb, length, get_or, take, drop, replicate}
use Rattle.laws.specs.Lists.{each, part, same}
use Rattle.rules.specs.Sizes.{bad_sizes}
use Rattle.rules.specs.Distance.{point, square}
use Rattle.rules.specs.Register.{numbers, count, rectangle}
use Rattle.rules.specs.Tables.{Tables, tables, runs}
use Rattle.rules.specs.Refusals.{Paper, paper, Verdict, pass, refuse, judge, unless}
use Rattle.rules.specs.Build.{builds}
use Rattle.rules.specs.Search.{searches}
use Rattle.rules.specs.declared.Grid.{Grid}
use Rattle.rules.specs.declared.Point.{Point}
use Rattle.rules.specs.declared.Refusal.TheVariants.{Sizes, Lengths, Text}

-- ---- limits

-- a text has at most 65,536 bytes
abbrev pub most_bytes : ℕ
most_bytes = 65536

-- a decimal has 1 to 7 digits
abbrev pub most_digits : ℕ
most_digits = 7

-- here n is at most 16, and there are at most 512 footprints and 8,192 entries
abbrev pub sheet_tiles : ℕ
sheet_tiles = 16

abbrev pub sheet_footprints : ℕ
sheet_footprints = 512

abbrev pub sheet_entries : ℕ
sheet_entries = 8192

-- ---- lines

-- the byte that ends a line
abbrev pub lf : ℕ
lf = 10

-- a byte in front of the first of some lines
abbrev pub onto : ℕ → List (List ℕ) → List (List ℕ)
onto b [] = (b ∷ []) ∷ []
onto b (a ∷ l) = (b ∷ a) ∷ l

-- the lines of a text, each with its LF; the last may have none
unfoldable pub lines : List ℕ → List (List ℕ)
lines [] = []
lines (b ∷ l) = cond (eqb b lf) ((b ∷ []) ∷ lines l) (onto b (lines l))

-- ---- decimals

-- `0` to `9`
unfoldable pub is_digit : ℕ → Bool
is_digit b = leb 48 b && leb b 57

-- the digits that some bytes begin with, and what follows them
unfoldable pub digits : List ℕ → List ℕ
digits [] = []
digits (b ∷ l) = cond (is_digit b) (b ∷ digits l) []

unfoldable pub after_digits : List ℕ → List ℕ
after_digits [] = []
after_digits (b ∷ l) = cond (is_digit b) (after_digits l) (b ∷ l)

-- the number that digits say, read behind those that said n
unfoldable pub value : ℕ → List ℕ → ℕ
value n [] = n
value n (b ∷ l) = value (10 * n + (b - 48)) l

-- 1 to 7 digits, no leading zero (0 itself is `0`)
unfoldable pub is_decimal : List ℕ → Bool
is_decimal l = (leb 1 (length l) && leb (length l) most_digits) && (eqb (length l) 1 || not (eqb (get_or l 0 0) 48))

-- a decimal, and the LF that ends its line
unfoldable pub is_number : List ℕ → Bool
is_number l = is_decimal (digits l) && same (after_digits l) (lf ∷ [])

-- ---- keys

-- the key of a line; Start stands before the first
pub data Key : Type 0 where
  Start Tiles Side Xlo Ylo Xhi Yhi X Y R : Key

-- tiles= side= xlo= ylo= xhi= yhi= x= y= r=
unfoldable pub word : Key → List ℕ
word Start = []
word Tiles = 116 ∷ 105 ∷ 108 ∷ 101 ∷ 115 ∷ 61 ∷ []
word Side = 115 ∷ 105 ∷ 100 ∷ 101 ∷ 61 ∷ []
word Xlo = 120 ∷ 108 ∷ 111 ∷ 61 ∷ []
word Ylo = 121 ∷ 108 ∷ 111 ∷ 61 ∷ []
word Xhi = 120 ∷ 104 ∷ 105 ∷ 61 ∷ []
word Yhi = 121 ∷ 104 ∷ 105 ∷ 61 ∷ []
word X = 120 ∷ 61 ∷ []
word Y = 121 ∷ 61 ∷ []
word R = 114 ∷ 61 ∷ []

-- what may follow the sizes and a footprint: a footprint, or the first question
abbrev pub after_footprint : List Key
after_footprint = Xlo ∷ X ∷ []

-- the keys that may follow a key
unfoldable pub follow : Key → List Key
follow Start = Tiles ∷ []
follow Tiles = Side ∷ []
follow Side = after_footprint
follow Xlo = Ylo ∷ []
follow Ylo = Xhi ∷ []
follow Xhi = Yhi ∷ []
follow Yhi = after_footprint
follow X = Y ∷ []
follow Y = R ∷ []
follow R = X ∷ []

-- a text may end after the sizes, a footprint or a question
unfoldable pub may_end : Key → Bool
may_end Start = false
may_end Tiles = false
may_end Side = true
may_end Xlo = false
may_end Ylo = false
may_end Xhi = false
may_end Yhi = true
may_end X = false
may_end Y = false
may_end R = true

-- the line that a footprint ends with
unfoldable pub ends_footprint : Key → ℕ
ends_footprint Start = 0
ends_footprint Tiles = 0
ends_footprint Side = 0
ends_footprint Xlo = 0
ends_footprint Ylo = 0
ends_footprint Xhi = 0
ends_footprint Yhi = 1
ends_footprint X = 0
ends_footprint Y = 0
ends_footprint R = 0

-- ---- a line

-- a bad line, or a key and its number
pub data Line : Type 0 where
  bad : Line
  says : Key → ℕ → Line

-- the bytes begin with the word
unfoldable pub begins_with : List ℕ → List ℕ → Bool
begins_with [] l = true
begins_with (a ∷ w) [] = false
begins_with (a ∷ w) (b ∷ l) = eqb a b && begins_with w l

-- what the bytes behind a line's key make of it
unfoldable pub numbered : Key → List ℕ → Line
numbered k l = cond (is_number l) (says k (value 0 (digits l))) bad

-- a line that may have one of some keys
unfoldable pub read : List Key → List ℕ → Line
read [] l = bad
read (k ∷ ks) l = cond (begins_with (word k) l) (numbered k (drop (length (word k)) l)) (read ks l)

-- ---- a text

-- the numbers of the lines before the first bad or missing one, how many whole footprints they have, and the refusal that names that line
pub record Told : Type 0 where
  pub said : List ℕ
  pub footprints : ℕ
  pub verdict : Verdict

abbrev pub stopped : Verdict → Told
stopped v = record { said = []; footprints = 0; verdict = v }

-- a line of key k and number n, and what the lines behind it tell
abbrev pub more : Key → ℕ → Told → Told
more k n t = record { said = n ∷ t.said; footprints = ends_footprint k + t.footprints; verdict = t.verdict }

-- what line i and those behind it tell
abbrev pub heard : ℕ → Line → (Key → Told) → Told
heard i bad behind = stopped (refuse (Text i))
heard i (says k n) behind = more k n (behind k)

-- the lines from line i on, behind one of key k
unfoldable pub tells : Key → ℕ → List (List ℕ) → Told
tells k i [] = stopped (judge (not (may_end k)) (Text i) pass)
tells k i (a ∷ l) = heard i (read (follow k) a) (λ next. tells next (suc i) l)

-- a text judged whole: line 0 for too many bytes, before all else
unfoldable pub judged : List ℕ → Told
judged text = cond (ltb most_bytes (length text)) (stopped (refuse (Text 0))) (tells Start 1 (lines text))

-- ---- what a good text says

unfoldable pub sheet_grid : Told → Grid
sheet_grid t = record { n = get_or t.said 0 0; side = get_or t.said 1 0 }

unfoldable pub sheet_register : Told → List ℕ
sheet_register t = part t.said 2 (2 + numbers * t.footprints)

-- a question: its point and its radius
pub record Question : Type 0 where
  pub from : Point
  pub radius : ℕ

unfoldable pub in_threes : List ℕ → List Question
in_threes [] = []
in_threes (x ∷ []) = []
in_threes (x ∷ y ∷ []) = []
in_threes (x ∷ y ∷ r ∷ l) = record { from = record { x = x; y = y }; radius = r } ∷ in_threes l

unfoldable pub sheet_questions : Told → List Question
sheet_questions t = in_threes (drop (2 + numbers * t.footprints) t.said)

-- ---- what is printed

-- one digit, or the last digit behind those in front of it
abbrev pub last_digit : Bool → ℕ → (ℕ → List ℕ) → List ℕ
last_digit true n front = (48 + n) ∷ []
last_digit false n front = front (n / 10) ++ ((48 + n % 10) ∷ [])

-- the last digits of n, so many at most
unfoldable pub spelled : ℕ → ℕ → List ℕ
spelled zero n = []
spelled (suc k) n = last_digit (ltb n 10) n (spelled k)

-- the decimal of n: n+1 digits are enough
unfoldable pub decimal : ℕ → List ℕ
decimal n = spelled (suc n) n

-- found= no= square= refused= line=
abbrev pub found_word : List ℕ
found_word = 102 ∷ 111 ∷ 117 ∷ 110 ∷ 100 ∷ 61 ∷ []

abbrev pub no_word : List ℕ
no_word = 110 ∷ 111 ∷ 61 ∷ []

abbrev pub square_word : List ℕ
square_word = 115 ∷ 113 ∷ 117 ∷ 97 ∷ 114 ∷ 101 ∷ 61 ∷ []

abbrev pub refused_word : List ℕ
refused_word = 114 ∷ 101 ∷ 102 ∷ 117 ∷ 115 ∷ 101 ∷ 100 ∷ 61 ∷ []

abbrev pub line_word : List ℕ
line_word = 108 ∷ 105 ∷ 110 ∷ 101 ∷ 61 ∷ []

-- one a line
unfoldable pub line_of : List ℕ → ℕ → List ℕ
line_of w n = w ++ (decimal n ++ (lf ∷ []))

-- a refusal's number, and of 8 the line
unfoldable pub refusal_text : Paper → List ℕ
refusal_text p = line_of refused_word p.number ++ cond (eqb p.number 8) (line_of line_word (get_or p.values 0 0)) []

-- number and square of a hit
unfoldable pub hit_text : ℕ → ℕ → List ℕ
hit_text i s = line_of no_word i ++ line_of square_word s

unfoldable pub hit_of : Grid → List ℕ → Point → ℕ → List ℕ
hit_of g reg q i = hit_text i (square (point q) (rectangle g reg i))

-- the hit count, then each hit
unfoldable pub hits_text : Grid → List ℕ → Point → List ℕ → List ℕ
hits_text g reg q hits = line_of found_word (length hits) ++ each (hit_of g reg q) hits

-- what a search answers, and what comes behind it unless it refuses
unfoldable pub answer_text : Grid → List ℕ → Point → Paper × List ℕ → List ℕ → List ℕ
answer_text g reg q a behind =
    cond (eqb a.0.number 0) (hits_text g reg q (take (get_or a.0.values 0 0) a.1) ++ behind) (refusal_text a.0)

unfoldable pub questions_text : Grid → Tables → List Question → List ℕ
questions_text g t [] = []
questions_text g t (a ∷ l) =
    answer_text g t.reg a.from (searches g t a.from a.radius (replicate sheet_footprints 0)) (questions_text g t l)

-- the build is judged before any question
unfoldable pub built_text : Grid → List ℕ → Paper × List ℕ × List ℕ → List Question → List ℕ
built_text g reg b l = cond (eqb b.0.number 0) (questions_text g (tables reg b.1 b.2) l) (refusal_text b.0)

-- n over 16 is refusal 1 too, over 512 footprints are refusal 2
unfoldable pub sheet_verdict : Grid → ℕ → Verdict
sheet_verdict g footprints =
    judge (bad_sizes g || ltb sheet_tiles g.n) Sizes (judge (ltb sheet_footprints footprints) Lengths pass)

unfoldable pub sheet_text : Grid → List ℕ → List Question → List ℕ
sheet_text g reg l =
    unless (sheet_verdict g (count reg)) (λ r. refusal_text (paper r))
    (built_text g reg (builds g reg (replicate (runs g + 1) 0) (replicate sheet_entries 0)) l)

unfoldable pub told_text : Told → List ℕ
told_text t = unless t.verdict (λ r. refusal_text (paper r)) (sheet_text (sheet_grid t) (sheet_register t) (sheet_questions t))

-- what the program prints for a text
unfoldable pub printed : List ℕ → List ℕ
printed text = told_text (judged text)
