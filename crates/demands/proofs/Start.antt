-- A start on built tables, any tail behind the entries and any front with room: it is accepted, and its front is what nothing brings.
-- Assumes nothing.
use mathlib.Core.Path.{◌≡◌, sym, ap, ◌∙◌}
use mathlib.Core.Bool.{false}
use mathlib.Core.List.Memᴰ
use mathlib.Core.List.{List, [], ◌++◌, map}
use Prim.Native.Nat.{ℕ, ◌≤◌}
use lib.ListN.{length}
use borrow.Author.Tests.{lt-leb, le-ltb}
use Rattle.std.specs.Prelude.{Ok}
use Rattle.laws.specs.Lists.{each}
use Rattle.laws.proofs.Apart.{self}
use Rattle.laws.proofs.Counting.{pigeons}
use Rattle.rules.specs.Sizes.{bad_point, off_grid, tile_of}
use Rattle.rules.specs.Register.{count}
use Rattle.rules.specs.Tables.{Tables, tile_runs, run_at, built_run, built_tables}
use Rattle.rules.specs.Refusals.{paper_answer, pass}
use Rattle.rules.specs.Search.{allowed_runs}
use Rattle.rules.specs.Front.{insert_all, laid, directions}
use Rattle.rules.specs.Walk.{waiting_row, group_if, start_entries, start_front, start_room, bad_start, start_verdict, walk_at, begun}
use Rattle.rules.specs.declared.Grid.{Grid}
use Rattle.rules.specs.declared.Point.{Point}
use Rattle.rules.specs.declared.Item.TheVariants.{Footprint}
use Rattle.rules.proofs.Built.{no_damage_in, good_lengths}
use Rattle.rules.proofs.Report.{own_runs}
use Rattle.rules.proofs.Keys.{rows_ins_all}
use Rattle.demands.proofs.Around.{Around, sizes, column_lt, small}
use Rattle.demands.proofs.Reported.{apart_numbers, number_lt}
use Rattle.demands.proofs.Everything.{ordered, roots, waits, root_of, start_waits}
use Rattle.demands.proofs.Moves.{run_of_tile, tile_brings_law, own_tile_lt}

module _ {g : Grid} {reg : List ℕ} {q : Point} (S : Around g reg q) (tail : List ℕ) where
  abbrev T : Tables
  T = built_tables g reg tail

  abbrev in_tq : List ℕ
  in_tq = each (built_run g reg) (allowed_runs g q (tile_of g q))

  entries_are : start_entries g T q ≡ in_tq
  unfolding start_entries
  entries_are = ap (each (run_at T)) (sym (own_runs g (sizes S).side_pos q (column_lt S))) ∙ tile_brings_law S tail (tile_of g q) (own_tile_lt S tail)

  -- the start's front: what waits before anything is taken
  pub start_front_law : start_front g T q ≡ map (waiting_row g reg q) (waits g reg q 0 (ordered g reg q))
  start_front_law = as_roots ∙ rows_ins_all (waiting_row g reg q) (roots g reg q) [] (λ z m. small S z (root_of S z m).0) (λ z m. absurd (Memᴰ.not-nil m))
      ∙ ap (map (waiting_row g reg q)) (start_waits S)
    where
      as_roots : start_front g T q ≡ insert_all (map (waiting_row g reg q) (roots g reg q)) []
      as_roots = unfold start_front built_tables in
          ap (λ (l : List ℕ). insert_all (map (waiting_row g reg q) (map Footprint l ++ each (group_if g q 1) directions)) []) entries_are

  -- ---- it is accepted

  pub point_on : bad_point g q ≡ false
  unfolding bad_point off_grid
  point_on = rw (lt-leb _ _ S.on.x_on, lt-leb _ _ S.on.y_on)

  few_in_tq : length in_tq ≤ count reg
  few_in_tq = pigeons self (count reg) in_tq (apart_numbers S (tile_of g q)) (λ a m. number_lt S (tile_of g q) a m)

  good_start : bad_start g T q ≡ false
  unfolding bad_start built_tables
  good_start =
      rw (
        no_damage_in g reg S.accepted tail (tile_runs (tile_of g q)) (λ k m. run_of_tile S tail (tile_of g q) k (own_tile_lt S tail) m),
        entries_are,
        le-ltb _ _ few_in_tq,
      )

  module _ (front : List ℕ) (room : start_room g reg ≤ length front) where
    passes : start_verdict g T q front ≡ pass
    unfolding start_verdict built_tables
    passes = rw (S.accepted.sizes, good_lengths g reg S.accepted tail, point_on, good_start, le-ltb _ _ room)

    pub start_accepted : begun g T q front ≡ (paper_answer (Ok 0), walk_at q (length (start_front g T q)) false, laid (length front) (start_front g T q))
    unfolding begun
    start_accepted = rw passes
