-- Demand 3: on built tables, any tail behind the entries, for a start on a front of any length with room, and any asks after it, each with
-- room for what it wants: nothing is refused, the rows given are the first of all footprints by square, then number, and after each ask
-- the front holds, row for row, what the rules name. Assumes nothing.
use mathlib.Core.Path.{◌≡◌, refl, sym, ap, ap₂, ◌∙◌}
use mathlib.Core.Bool.{Bool, false}
use mathlib.Core.List.{List, [], Memᴰ}
use Prim.Native.Nat.{ℕ, ◌*◌, ◌≤◌, zero-le}
use lib.ListN.{length, take}
use borrow.Author.Tests.{le-ltb}
use Rattle.std.specs.Prelude.{Ok}
use Rattle.laws.specs.Lists.{each, any}
use Rattle.laws.proofs.Maps.{take_map}
use Rattle.rules.specs.Sizes.{bad_point}
use Rattle.rules.specs.Tables.{Tables, built_tables}
use Rattle.rules.specs.Refusals.{paper_answer}
use Rattle.rules.specs.Front.{laid}
use Rattle.rules.specs.Walk.{start_front, start_room, row_numbers, walk_at, begun}
use Rattle.rules.specs.Waits.{nearest}
use Rattle.rules.specs.declared.Grid.{Grid}
use Rattle.rules.specs.declared.Point.{Point}
use Rattle.rules.proofs.Good.{Accepted}
use Rattle.demands.specs.Asking.{Ask, Begun, Asked, ask_all, walks, numbers_given, met_damage, wanted_in_all, rows_written, promised}
use Rattle.demands.proofs.Around.{Around, around}
use Rattle.demands.proofs.Start.{start_front_law, start_accepted}
use Rattle.demands.proofs.Nearest.{in_order, row_for, rows_write, nearest_is}
use Rattle.demands.proofs.OneAsk.{state_at, front_at}
use Rattle.demands.proofs.Asks.{asks_from, joined_from, no_damage_from}

module _ (g : Grid) (reg : List ℕ) (q : Point) (accepted : Accepted g reg) (on : bad_point g q ≡ false)
    (tail front : List ℕ) (room : start_room g reg ≤ length front) where
  S : Around g reg q
  S = around accepted on

  abbrev t : Tables
  t = built_tables g reg tail

  -- a start is accepted, and lays its front; the numbers past it are 0
  pub start_is : begun g t q front ≡ (paper_answer (Ok 0), walk_at q (length (start_front g t q)) false, laid (length front) (start_front g t q))
  start_is = start_accepted S tail front room

  after_start : (l : List Ask) → walks g t q front l
      ≡ (begun g t q front, ask_all g t (state_at S tail (length front) room 0) (front_at S tail (length front) room 0) l)
  unfolding walks
  after_start l = rw (start_is, start_front_law S tail) refl

  module _ (l : List Ask) (fit : (a : Ask) → Memᴰ a l → row_numbers * a.wanted ≤ length a.output) where
    -- and all asks after it leave what is promised
    pub walk_is : walks g t q front l
        ≡ (
          (paper_answer (Ok 0), walk_at q (length (start_front g t q)) false, laid (length front) (start_front g t q)),
          promised g t q (length front) [] false l,
        )
    walk_is =
        after_start l
        ∙ ap₂ (λ (s : Begun) (r : List Asked). (s, r)) start_is
        (asks_from S tail (length front) room 0 l fit
        ∙ ap (λ (b : Bool). promised g t q (length front) [] b l) (le-ltb (length (in_order g reg q)) 0 zero-le))

    -- what they give, joined, are the first rows of all footprints by square, then number: as many as are wanted in all, or all
    pub given_in_order : each numbers_given (walks g t q front l).1
        ≡ rows_written g reg q (take (wanted_in_all l) (nearest g reg q))
    given_in_order =
        ap (λ (r : Begun × List Asked). each numbers_given r.1) (after_start l)
        ∙ joined_from S tail (length front) room 0 l fit
        ∙ sym (rows_write g reg q (take (wanted_in_all l) (in_order g reg q)))
        ∙ ap (rows_written g reg q) (sym (ap (take (wanted_in_all l)) (nearest_is S) ∙ take_map (row_for g reg q) (wanted_in_all l) (in_order g reg q)))

  -- no ask gives 7, whatever is asked for and whatever room is lent
  pub no_damage : (l : List Ask) → any met_damage (walks g t q front l).1 ≡ false
  no_damage l =
      ap (λ (r : Begun × List Asked). any met_damage r.1) (after_start l) ∙ no_damage_from S tail (length front) room 0 l
