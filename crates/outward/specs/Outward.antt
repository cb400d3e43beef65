-- Answers as C has them: the refusal's number, 0 for accepted, and a value, 0 where the rules name none. Assumes nothing.
use Rattle.std.specs.Prelude.{Bool, true, false, not, cond, List, ℕ, ◌-◌, eqb, get_or}
use Rattle.rules.specs.Refusals.{Paper}
use Rattle.rules.specs.declared.Walk.{Walk}
use Rattle.outward.specs.declared.Told.{Told}

abbrev pub told : ℕ → ℕ → Told
told k v = record { number = k; value = v }

unfoldable pub outward : Paper → Told
outward p = told p.number (get_or p.values 0 0)

-- with the memory that a call leaves beside it
abbrev pub outward₁ : {A : Type 0} → Paper × A → Told × A
outward₁ t = (outward t.0, t.1)

abbrev pub outward₂ : {A B : Type 0} → Paper × A × B → Told × A × B
outward₂ t = (outward t.0, t.1, t.2)

-- a run's answer and where it begins: of one that is accepted the value is its length, a refused one has 0 for both
unfoldable pub outward_run : Paper → Told × ℕ
outward_run p =
    cond (eqb p.number 0) (told 0 (get_or p.values 1 0 - get_or p.values 0 0), get_or p.values 0 0) (told p.number 0, 0)

-- a mark is 0 for unset, any other number for set; handed back it is 0 or 1
unfoldable pub is_marked : ℕ → Bool
is_marked k = not (eqb k 0)

abbrev pub mark_no : Bool → ℕ
mark_no true = 1
mark_no false = 0

-- a walk's state as numbers, and numbers as a state
abbrev pub State : Type 0
State = ℕ × ℕ × ℕ × ℕ

unfoldable pub state_of : Walk → State
state_of w = (w.x, w.y, w.waiting, mark_no w.damaged)

unfoldable pub walk_of : ℕ → ℕ → ℕ → ℕ → Walk
walk_of x y waiting mark = record { x = x; y = y; waiting = waiting; damaged = is_marked mark }

-- a start's and an ask's answer, state and memory
abbrev pub outward_start : Paper × Walk × List ℕ → Told × State × List ℕ
outward_start t = (outward t.0, state_of t.1, t.2)

abbrev pub outward_ask : Paper × Walk × List ℕ × List ℕ → Told × State × List ℕ × List ℕ
outward_ask t = (outward t.0, state_of t.1, t.2, t.3)
