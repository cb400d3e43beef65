-- A start: all runs of Tq are read, its rows find room, and its refusals in their order. Assumes nothing.
use Rattle.std.specs.Prelude.{Option, Some, None, Result, Ok, Err, IsSome}
use Rattle.std.specs.Option.{ok_or}
use mathlib.Core.Path.{◌≡◌, refl, sym, ap, ap₂, ◌∙◌}
use mathlib.Core.Bool.{Bool, true, false, cond, not}
use mathlib.Core.List.{List, [], ◌∷◌, ◌++◌, map, map-append}
use Prim.Native.Nat.{ℕ, ◌+◌, ◌-◌, ◌%◌, ◌≤◌, ◌<◌}
use native.Mathlib.Nat.{not-suc-le-zero}
use native.Mathlib.Omega.{arith}
use lib.Dec.{eqb, ltb}
use lib.ListN.{length, drop, get_or, length-append, length-map, drop_of_length-le}
use lib.Seq.{drop-cons}
use native.Mathlib.Numerals.{add-one}
use borrow.Author.Tests.{ltb-false, le-ltb, lt-ltb}
use Rattle.laws.specs.Lists.{each}
use Rattle.laws.proofs.Tests.{neither}
use Rattle.laws.proofs.Counting.{length_each}
use Rattle.rules.specs.Sizes.{most_footprints, bad_sizes, bad_point, tile_of}
use Rattle.rules.specs.Register.{numbers, count, bad_register}
use Rattle.rules.specs.Tables.{Tables, bad_starts, bad_lengths, tile_runs, run_at, good_runs}
use Rattle.rules.specs.Refusals.{paper, paper_answer, pass, refuse}
use Rattle.rules.specs.Search.{allowed_runs}
use Rattle.rules.specs.Front.{rows, laid, insert_all, directions}
use Rattle.rules.specs.Walk.{group_exists, group_if, waiting_row, start_entries, start_front, walk_at, refused_walk, start_room, bad_start, start_verdict, begun}
use Rattle.rules.specs.declared.Grid.{Grid}
use Rattle.rules.specs.declared.Point.{Point}
use Rattle.rules.specs.declared.Direction.{Direction}
use Rattle.rules.specs.declared.Item.{Item}
use Rattle.rules.specs.declared.Item.TheVariants.{Group, Footprint}
use Rattle.rules.specs.declared.Refusal.{Refusal}
use Rattle.rules.specs.declared.Refusal.TheVariants.{Damage, Room}
use Rattle.rules.specs.declared.Three.{Three}
use Rattle.rules.proofs.Memory.{length_rows}
use Rattle.rules.proofs.Report.{own_runs}
use Rattle.walk.specs.Fill.{fill, Got, lost, kept, add_all, waits, stands, Held, Filled}
use Rattle.walk.specs.Reading.{Placed, run_rows, Counted}
use Rattle.walk.specs.Groups.{item_rows}
use Rattle.walk.specs.declared.batch.Fill.{Fill}
use Rattle.walk.proofs.Adding.{merged_none}
use Rattle.walk.proofs.Bringing.{add_all_append}
use Rattle.walk.proofs.Near.{sized, columns}
use Rattle.walk.proofs.Groups.{group_alone}
use Rattle.walk.proofs.Moves.{add_all_fits}

-- ---- the tile that the point lies in

module _ (g : Grid) (q : Point) (ok : Placed g q) where
  -- all its runs are read
  own_read : allowed_runs g q (tile_of g q) ≡ tile_runs (tile_of g q)
  own_read = own_runs g (sized g q ok).side_pos q (columns g q ok).0

  module _ (t : Tables) (tile : ℕ) (et : tile ≡ tile_of g q) where
    own_is : allowed_runs g q tile ≡ tile_runs (tile_of g q)
    own_is = ap (allowed_runs g q) et ∙ own_read

    pub bad_runs : good_runs g t (allowed_runs g q tile) ≡ false → bad_start g t q ≡ true
    unfolding bad_start
    bad_runs e = rw (← own_is, e) refl

    module _ (n : ℕ) (j : Counted g t (allowed_runs g q tile) 16 n) where
      pub too_many : count t.reg < n → bad_start g t q ≡ true
      unfolding bad_start start_entries
      too_many h = rw (← own_is, j.good, ← j.counts, lt-ltb (count t.reg) n h) refl

      pub good_start : n ≤ count t.reg → bad_start g t q ≡ false
      unfolding bad_start start_entries
      good_start h = rw (← own_is, j.good, ← j.counts, le-ltb (count t.reg) n h) refl

-- what is told where no count is
pub none_told : (o : Option ℕ) (why d : Refusal) → o ≡ None → ◌≡◌ {A = Result ℕ Refusal} (Err why) (ok_or o d) → why ≡ d
none_told None why d e v = cc
none_told (Some n) why d e v = cc

-- ---- its rows

module _ (g : Grid) (q : Point) where
  abbrev group_rows : Direction → List Three
  group_rows d = item_rows g q (group_if g q 1 d)

  abbrev first_groups : List Direction → List Item
  first_groups ds = each (group_if g q 1) ds

  -- the next of them, and those behind it
  pub groups_next : (x : Direction) (i : ℕ) → i < length directions
      → item_rows g q (first_groups (drop i directions)) ≡ group_rows (get_or directions i x) ++ item_rows g q (first_groups (drop (i + 1) directions))
  groups_next x i h =
      let next : drop i directions ≡ get_or directions i x ∷ drop (i + 1) directions = drop-cons directions i x h ∙ rw (add-one i) refl in
      ap (λ (l : List Direction). item_rows g q (first_groups l)) next
      ∙ map-append (waiting_row g [] q) (group_if g q 1 (get_or directions i x)) (first_groups (drop (i + 1) directions))

  pub groups_none : (i : ℕ) → length directions ≤ i → item_rows g q (first_groups (drop i directions)) ≡ []
  groups_none i h = ap (λ (l : List Direction). item_rows g q (first_groups l)) (drop_of_length-le directions {i = i} h)

  groups_alone : (reg : List ℕ) (ds : List Direction) → item_rows g q (first_groups ds) ≡ map (waiting_row g reg q) (first_groups ds)
  groups_alone reg [] = refl
  groups_alone reg (d ∷ ds) =
      map-append (waiting_row g [] q) (group_if g q 1 d) (first_groups ds)
      ∙ ap₂ (λ (x y : List Three). x ++ y) (group_alone g reg q 1 d) (groups_alone reg ds)
      ∙ sym (map-append (waiting_row g reg q) (group_if g q 1 d) (first_groups ds))

  one_group : (d : Direction) → length (group_if g q 1 d) ≤ 1
  unfolding group_if
  one_group d = go (group_exists g q d 1)
    where
      go : (b : Bool) → length {A = Item} (cond b (Group d 1 ∷ []) []) ≤ 1
      go true = omega arith
      go false = omega arith

  four_most : length (item_rows g q (first_groups directions)) ≤ 4
  four_most = omega (arith, length-map (first_groups directions) (waiting_row g [] q), length_each (group_if g q 1) 1 directions one_group)

  module _ (t : Tables) (tile : ℕ) (ok : Placed g q) (et : tile ≡ tile_of g q) where
    abbrev own : List Three
    own = run_rows g t q (allowed_runs g q tile)

    abbrev groups : List Three
    groups = item_rows g q (first_groups directions)

    start_rows : own ++ groups ≡ map (waiting_row g t.reg q) (map Footprint (start_entries g t q) ++ first_groups directions)
    unfolding start_entries
    start_rows =
        ap₂ (λ (x y : List Three). x ++ y) (ap (run_rows g t q) (ap (allowed_runs g q) et ∙ own_read g q ok)) (groups_alone t.reg directions)
        ∙ sym (map-append (waiting_row g t.reg q) (map Footprint (each (run_at t) (tile_runs (tile_of g q)))) (first_groups directions))

    -- all of them find room, and wait in order
    pub start_stands : (front batch : List ℕ) (n : ℕ) → n ≡ length (rows front) → length (each (run_at t) (allowed_runs g q tile)) + 4 ≤ n
        → add_all (add_all (stands front batch (fill n 0)) own) groups ≡ kept (n - length (own ++ groups)) (start_front g t q)
    unfolding stands waits start_front
    start_stands front batch n e h =
        let z : n - 0 ≡ n = omega arith in
        let d : drop n (rows front) ≡ [] = drop_of_length-le (rows front) {i = n} (omega arith) in
        let a = length-append own groups in
        let b = length-map (map Footprint (each (run_at t) (allowed_runs g q tile))) (waiting_row g t.reg q) in
        let c = length-map (each (run_at t) (allowed_runs g q tile)) Footprint in
        let m = four_most in
        ap₂ (λ (k : ℕ) (l : List Three). add_all (add_all (kept k l) own) groups) z (merged_none (drop n (rows front)) ∙ d)
        ∙ sym (add_all_append (kept n []) own groups)
        ∙ add_all_fits n [] (own ++ groups) (omega arith)
        ∙ ap (λ (l : List Three). kept (n - length (own ++ groups)) (insert_all l [])) start_rows

-- ---- its room

pub few_footprints : (g : Grid) (t : Tables) → bad_lengths g t ≡ false → count t.reg ≤ 65536
unfolding bad_lengths bad_register
few_footprints g t e =
    ltb-false most_footprints (count t.reg) (neither (not (eqb (length t.reg % numbers) 0)) (ltb most_footprints (count t.reg)) (neither _ (bad_starts g t.starts) e).0).1

pub start_fits : (g : Grid) (reg front : List ℕ) (n : ℕ) → n ≤ count reg → start_room g reg ≤ length front → n + 4 ≤ length (rows front)
unfolding start_room
start_fits g reg front n h k = omega (arith, length_rows front)

-- what waits once all is brought
pub kept_waits : (front batch : List ℕ) (f : Fill) (r : ℕ) (l : List Three) → stands front batch f ≡ kept r l → waits front batch f.head f.count ≡ l
unfolding stands
kept_waits front batch f r l e = cc

-- nothing is lost
pub kept_some : (front batch : List ℕ) (f : Option Fill) (g : Got) → Filled front batch f g → (r : ℕ) (l : List Three) → g ≡ kept r l → IsSome f
kept_some front batch None g p r l e =
    let h : lost ≡ kept r l = p ∙ e in
    let z : ◌≡◌ {A = ℕ} 0 1 = cc in absurd (not-suc-le-zero {n = 0} (omega arith))
kept_some front batch (Some f) g p r l e = refl

pub held_is : (front batch : List ℕ) (r : Option Fill) (f : Fill) (g : Got) → Filled front batch r g → r ≡ Some f → Held front batch f g
held_is front batch r f g p e = rw e at p

-- ---- refusals 7, 6, and what a refusal leaves

module _ (g : Grid) (t : Tables) (q : Point) (front : List ℕ) where
  module _ (a : bad_sizes g ≡ false) (b : bad_lengths g t ≡ false) (c : bad_point g q ≡ false) where
    pub start_damage : bad_start g t q ≡ true → start_verdict g t q front ≡ refuse Damage
    unfolding start_verdict
    start_damage d = rw (a, b, c, d) refl

    pub start_short : bad_start g t q ≡ false → length front < start_room g t.reg → start_verdict g t q front ≡ refuse (Room (start_room g t.reg))
    unfolding start_verdict
    start_short d h = rw (a, b, c, d, lt-ltb (length front) (start_room g t.reg) h) refl

    pub start_passes : bad_start g t q ≡ false → start_room g t.reg ≤ length front → start_verdict g t q front ≡ pass
    unfolding start_verdict
    start_passes d h = rw (a, b, c, d, le-ltb (length front) (start_room g t.reg) h) refl

  pub start_refused : (why : Refusal) → start_verdict g t q front ≡ refuse why → (paper why, refused_walk, front) ≡ begun g t q front
  unfolding begun
  start_refused why e = rw e refl

  pub start_done : start_verdict g t q front ≡ pass → (front' : List ℕ) (n : ℕ) → front' ≡ laid (length front) (start_front g t q) → n ≡ length (start_front g t q)
      → (paper_answer (Ok 0), walk_at q n false, front') ≡ begun g t q front
  unfolding begun
  start_done e front' n ef en = rw (e, ef, en)
