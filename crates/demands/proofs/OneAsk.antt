-- One ask on built tables, once k rows were asked for: it is accepted and leaves what k + j rows asked for leave. Assumes nothing.
use mathlib.Core.Path.{◌≡◌, ap, ◌∙◌}
use mathlib.Core.Bool.{false}
use mathlib.Core.List.{List, []}
use Prim.Native.Nat.{ℕ, ◌+◌, ◌-◌, ◌*◌, ◌≤◌, ◌<◌}
use native.Mathlib.Nat.{le_trans}
use native.Mathlib.Omega.{arith}
use lib.ListN.{length, take, drop, length-map, length-take}
use borrow.Author.Tests.{lt-ltb, le-ltb}
use Rattle.std.specs.Prelude.{Ok}
use Rattle.laws.specs.Lists.{each, over}
use Rattle.rules.specs.Sizes.{tile_count}
use Rattle.rules.specs.Register.{count}
use Rattle.rules.specs.Tables.{Tables, built_tables}
use Rattle.rules.specs.Refusals.{paper, paper_answer, pass}
use Rattle.rules.specs.Front.{laid}
use Rattle.rules.specs.Walk.{waiting_row, start_room, row_numbers, machine, finish, walk_at, ask_verdict, whole_rows, bad_walk, ask_machine, ask_outcome, asks}
use Rattle.rules.specs.declared.Grid.{Grid}
use Rattle.rules.specs.declared.Point.{Point}
use Rattle.rules.specs.declared.Refusal.TheVariants.{Room}
use Rattle.rules.specs.declared.Three.{Three}
use Rattle.rules.specs.declared.Walk.{Walk}
use Rattle.rules.proofs.Built.{good_lengths}
use Rattle.rules.proofs.Memory.{length_laid, take_laid}
use Rattle.demands.proofs.Around.{Around}
use Rattle.demands.proofs.Everything.{ordered, waits, RestOf, all_left}
use Rattle.demands.proofs.Room.{roomy}
use Rattle.demands.proofs.Start.{point_on}
use Rattle.demands.proofs.Taking.{left_after, place_after, left_more, footprints_left, still_wanted, place_more, rest_after}
use Rattle.demands.proofs.Machine.{written, ask_is}
use Rattle.demands.proofs.Nearest.{in_order, rows_at}

module _ {g : Grid} {reg : List ℕ} {q : Point} (S : Around g reg q) (tail : List ℕ) (size : ℕ) (room : start_room g reg ≤ size) where
  abbrev T : Tables
  T = built_tables g reg tail

  -- the state and the front once k rows were asked for
  abbrev pub state_at : ℕ → Walk
  state_at k = walk_at q (length (rows_at S k)) false

  abbrev pub front_at : ℕ → List ℕ
  front_at k = laid size (rows_at S k)

  -- the footprints that j more rows are
  abbrev pub next_of : ℕ → ℕ → List ℕ
  next_of k j = take j (drop k (in_order g reg q))

  -- what is left once k rows were asked for
  left : (k : ℕ) → RestOf g reg q (place_after g reg q k 0 (ordered g reg q)) (left_after k (ordered g reg q))
  left k = rest_after S k 0 (ordered g reg q) (all_left S)

  few : (k : ℕ) → length (rows_at S k) ≤ count reg + tile_count g + 4
  few k =
      rw (length-map (waits g reg q (place_after g reg q k 0 (ordered g reg q)) (left_after k (ordered g reg q))) (waiting_row g reg q))
      (roomy S (place_after g reg q k 0 (ordered g reg q)) (left_after k (ordered g reg q)) (left k))

  pub front_length : (k : ℕ) → length (front_at k) ≡ size
  unfolding start_room
  front_length k = length_laid size (rows_at S k) (let f = few k in omega arith)

  whole_rows_law : (k : ℕ) → count reg + tile_count g + 4 ≤ whole_rows (front_at k)
  unfolding whole_rows start_room
  whole_rows_law k = rw (front_length k) (omega arith)

  module _ (k j : ℕ) (out : List ℕ) (fits : row_numbers * j ≤ length out) where
    passes : ask_verdict g T (state_at k) j out ≡ pass
    unfolding ask_verdict
    passes = rw (S.accepted.sizes, good_lengths g reg S.accepted tail, point_on S tail, le-ltb _ _ fits)

    good_walk : bad_walk (state_at k) (front_at k) ≡ false
    unfolding bad_walk
    good_walk = le-ltb _ _ (le_trans (few k) (whole_rows_law k))

    -- the machine as the ask leaves it
    ends : ask_machine g T (front_at k) (state_at k) j
        ≡ machine (rows_at S (k + j)) (each (written g reg q) (next_of k j)) (j - length (drop k (in_order g reg q))) false
    unfolding ask_machine
    ends =
        rw (good_walk)
        (ap (λ (w : List Three). finish g T q (whole_rows (front_at k)) (machine w [] j false)) (take_laid size (rows_at S k))
        ∙ ask_is S tail (whole_rows (front_at k)) (whole_rows_law k) j (place_after g reg q k 0 (ordered g reg q)) (left_after k (ordered g reg q)) [] (left k)
        ∙ rw (place_more g reg q k j 0 (ordered g reg q), left_more k j (ordered g reg q), still_wanted j (left_after k (ordered g reg q)), footprints_left k (ordered g reg q)))

    given_count : j - (j - length (drop k (in_order g reg q))) ≡ length (next_of k j)
    given_count = omega (arith, length-take j (drop k (in_order g reg q)))

    pub one_ask : asks g T (front_at k) (state_at k) j out
        ≡ (paper_answer (Ok (length (next_of k j))), state_at (k + j), front_at (k + j), over (each (written g reg q) (next_of k j)) out)
    unfolding asks ask_outcome
    one_ask = rw (passes, ends, given_count, front_length k)

  -- an ask that lends too little room is refused for it, and changes nothing
  pub lacks_room : (k j : ℕ) (out : List ℕ) → length out < row_numbers * j
      → asks g T (front_at k) (state_at k) j out ≡ (paper (Room (row_numbers * j)), state_at k, front_at k, out)
  unfolding asks ask_verdict
  lacks_room k j out h = rw (S.accepted.sizes, good_lengths g reg S.accepted tail, point_on S tail, lt-ltb (length out) (row_numbers * j) h)
