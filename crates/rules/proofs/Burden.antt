-- The burden of a row: at most its weight, and more than that of all rows that it brings, for tables and points of any origin. Assumes nothing.
use mathlib.Core.Path.{◌≡◌, refl, ap, ◌∙◌}
use mathlib.Core.Bool.{Bool, true, false, cond, not, ◌||◌}
use mathlib.Core.List.{List, [], ◌∷◌, map}
use Prim.Native.Nat.{ℕ, zero, suc, ◌+◌, ◌-◌, ◌*◌, ◌%◌, ◌<◌, ◌≤◌}
use native.Mathlib.Nat.{not-suc-le-zero, mul-le-mul_right}
use native.Mathlib.Omega.{arith}
use lib.Dec.{leb, eqb}
use lib.ListN.{length}
use borrow.Author.Tests.{eqb-false, ne_eqb}
use Rattle.std.specs.Prelude.{Option, Some, None}
use Rattle.laws.specs.Lists.{from, each, total}
use Rattle.laws.proofs.Tests.{by_le, neither}
use Rattle.laws.proofs.Totals.{total_append, total_map, total_same, length_part}
use Rattle.laws.proofs.Lengths.{length_filter}
use Rattle.laws.proofs.Counting.{length_each}
use Rattle.laws.proofs.Ranges.{length_from}
use Rattle.rules.specs.Sizes.{most_tiles, tile_count, tiles}
use Rattle.rules.specs.Register.{bad_entry}
use Rattle.rules.specs.Tables.{Tables, tile_runs, run_start, run_end, run_at, good_runs}
use Rattle.rules.specs.Search.{allowed_run, allowed_runs}
use Rattle.rules.specs.Front.{row, direction_no, encoded, decoded}
use Rattle.rules.specs.Walk.{group_exists, tile_in_group, group_tiles, waiting_row, group_if, group_brings, tile_brings, damage, bring, hand, damage_if, row_writes, item_move, read_move, move, tile_weight, group_weight, weight}
use Rattle.rules.specs.declared.Row.{Row}
use Rattle.rules.specs.declared.Grid.{Grid}
use Rattle.rules.specs.declared.Point.{Point}
use Rattle.rules.specs.declared.Direction.{Direction}
use Rattle.rules.specs.declared.Item.{Item}
use Rattle.rules.specs.declared.Item.TheVariants.{Group, Tile, Footprint}
use Rattle.rules.specs.declared.Three.{Three}
use Rattle.rules.proofs.Encoding.{InRange, read_stands, Stands}

-- ---- the burden of a row: its weight, but 1 for a group of level 0, which is damage when it is taken

unfoldable pub group_burden : Grid → Tables → ℕ → ℕ
group_burden g t l = cond (eqb l 0) 1 (1 + (most_tiles - l) * group_weight g t)

unfoldable pub burden : Grid → Tables → Three → ℕ
burden g t a = cond (eqb a.kind 0) (group_burden g t (a.number % 64)) (cond (eqb a.kind 1) (tile_weight t) 1)

-- ---- moves and numbers

pub no_damage {ℓ} : {X : Type ℓ} (new : List Three) → damage ≡ bring new → X
no_damage new e = let z : ◌≡◌ {A = ℕ} 0 1 = cc in absurd (not-suc-le-zero {n = 0} (omega arith))

pub hands_out {ℓ} : {X : Type ℓ} (b : Bool) (l : List ℕ) (new : List Three) → damage_if b (hand l) ≡ bring new → X
hands_out true l new e = no_damage new e
hands_out false l new e = let z : ◌≡◌ {A = ℕ} 0 1 = cc in absurd (not-suc-le-zero {n = 0} (omega arith))

pub same_new : (b : Bool) (x new : List Three) → damage_if b (bring x) ≡ bring new → (b ≡ false) × (x ≡ new)
same_new true x new e = no_damage new e
same_new false x new e = (refl, cc)

pub group_number : (d : Direction) (l : ℕ) → l < 64 → (direction_no d * 64 + l) % 64 ≡ l
group_number d l h = omega arith

-- ---- on a grid, with tables

module _ (g : Grid) (t : Tables) where
  group_positive : (l : ℕ) → 0 < group_burden g t l
  unfolding group_burden
  group_positive l = go (eqb l 0)
    where
      go : (b : Bool) → 0 < cond b 1 (1 + (most_tiles - l) * group_weight g t)
      go true = omega arith
      go false = omega arith

  tile_positive : 0 < tile_weight t
  unfolding tile_weight
  tile_positive = omega arith

  pub burden_positive : (a : Three) → 0 < burden g t a
  unfolding burden
  burden_positive a = go (eqb a.kind 0) (eqb a.kind 1)
    where
      go : (p q : Bool) → 0 < cond p (group_burden g t (a.number % 64)) (cond q (tile_weight t) 1)
      go true q = group_positive (a.number % 64)
      go false true = tile_positive
      go false false = omega arith

  -- it is at most the weight
  pub burden_weight : (a : Three) → burden g t a ≤ weight g t a
  unfolding burden weight group_burden
  burden_weight a = go (eqb a.kind 0) (eqb a.kind 1) (eqb (a.number % 64) 0)
    where
      go : (p q r : Bool)
          → cond p (cond r 1 (1 + (most_tiles - a.number % 64) * group_weight g t)) (cond q (tile_weight t) 1)
          ≤ cond p (1 + (most_tiles - a.number % 64) * group_weight g t) (cond q (tile_weight t) 1)
      go true q true = omega arith
      go true q false = omega arith
      go false q r = omega arith

  level_zero : group_burden g t 0 ≡ 1
  unfolding group_burden
  level_zero = refl

  pub from_level : (l : ℕ) → 0 < l → group_burden g t l ≡ 1 + (most_tiles - l) * group_weight g t
  unfolding group_burden
  from_level l h = rw (ne_eqb l 0 (λ e. omega arith))

  module _ (q : Point) where
    -- of an item as it comes to wait
    abbrev item_burden : Item → ℕ
    item_burden i = burden g t (waiting_row g t.reg q i)

    rows_burden : (make : ℕ → Item) (w : ℕ) (l : List ℕ) → ((k : ℕ) → item_burden (make k) ≡ w)
        → total item_burden (map make l) ≡ length l * w
    rows_burden make w l e =
        total_map item_burden make l
        ∙ total_same (λ (k : ℕ). item_burden (make k)) w l e

    tile_burden : (k : ℕ) → item_burden (Tile k) ≡ tile_weight t
    unfolding burden waiting_row encoded
    tile_burden k = refl

    footprint_burden : (i : ℕ) → item_burden (Footprint i) ≡ 1
    unfolding burden waiting_row encoded
    footprint_burden i = refl

    -- ---- a tile

    runs_bound : (k : ℕ) → length (run_at t k) ≤ length t.entries
    unfolding run_at
    runs_bound k = length_part t.entries (run_start t.starts k) (run_end t.starts k)

    tile_entries_law : (tile : ℕ) → length (each (run_at t) (allowed_runs g q tile)) ≤ 16 * length t.entries
    unfolding allowed_runs tile_runs
    tile_entries_law tile =
        let a = length_each (run_at t) (length t.entries) (allowed_runs g q tile) runs_bound in
        let b = length_filter (allowed_run g q) (from (16 * tile) 16) in
        let c = length_from (16 * tile) 16 in
        let d = mul-le-mul_right {m = length (allowed_runs g q tile)} {n = 16} (length t.entries) (omega arith) in
        omega arith

    pub tile_lighter : (tile : ℕ) → total (burden g t) (map (waiting_row g t.reg q) (tile_brings g t q tile)) < tile_weight t
    unfolding tile_brings tile_weight
    tile_lighter tile =
        let es = each (run_at t) (allowed_runs g q tile) in
        omega (arith, total_map (burden g t) (waiting_row g t.reg q) (map Footprint es), rows_burden Footprint 1 es footprint_burden, tile_entries_law tile)

    -- ---- a group

    group_burden_law : (d : Direction) (l : ℕ) → item_burden (Group d l) ≡ group_burden g t ((direction_no d * 64 + l) % 64)
    unfolding burden waiting_row encoded
    group_burden_law d l = refl

    next_burden : (d : Direction) (l : ℕ) → l < 64 → group_burden g t ((direction_no d * 64 + (l + 1)) % 64) ≤ 1 + (most_tiles - (l + 1)) * group_weight g t
    next_burden d l h =
        by_le (l + 1) 63
        (λ k. let e = ap (group_burden g t) (group_number d (l + 1) (omega arith)) in omega (arith, from_level (l + 1) (omega arith)))
        (λ k. let e : (direction_no d * 64 + (l + 1)) % 64 ≡ 0 = omega arith in
        let f = ap (group_burden g t) e in
        let z = level_zero in
        omega arith)

    next_lighter : (d : Direction) (l : ℕ) → l < 64
        → total item_burden (group_if g q (l + 1) d) ≤ 1 + (most_tiles - (l + 1)) * group_weight g t
    unfolding group_if
    next_lighter d l h = go (group_exists g q d (l + 1))
      where
        go : (b : Bool) → total item_burden (cond b (Group d (l + 1) ∷ []) []) ≤ 1 + (most_tiles - (l + 1)) * group_weight g t
        go true = let e = group_burden_law d (l + 1) in let f = next_burden d l h in omega arith
        go false = omega arith

    group_tiles_law : (d : Direction) (l : ℕ) → length (group_tiles g q d l) * tile_weight t ≤ tile_count g * tile_weight t
    unfolding group_tiles tiles
    group_tiles_law d l =
        let a = length_filter (tile_in_group g q d l) (tiles g) in
        let b = length_from 0 (tile_count g) in
        mul-le-mul_right (tile_weight t) (omega arith)

    one_level_less : (l w : ℕ) → l < 64 → (most_tiles - l) * w ≡ w + (most_tiles - (l + 1)) * w
    one_level_less l w h = let e : most_tiles - l ≡ suc (most_tiles - (l + 1)) = omega arith in rw e (suc_times (most_tiles - (l + 1)) w)
      where
        suc_times : (x y : ℕ) → suc x * y ≡ y + x * y
        suc_times x y = omega arith

    all_tiles : group_weight g t ≡ 1 + tile_count g * tile_weight t
    unfolding group_weight
    all_tiles = refl

    pub group_lighter : (d : Direction) (l : ℕ) → 0 < l → l < 64 → total (burden g t) (map (waiting_row g t.reg q) (group_brings g q d l)) < group_burden g t l
    unfolding group_brings
    group_lighter d l h k =
        let a = total_map (burden g t) (waiting_row g t.reg q) (group_brings g q d l) in
        let b = total_append item_burden (map Tile (group_tiles g q d l)) (group_if g q (l + 1) d) in
        let c = rows_burden Tile (tile_weight t) (group_tiles g q d l) tile_burden in
        let e = group_tiles_law d l in
        let m = next_lighter d l k in
        let n = one_level_less l (group_weight g t) k in
        let o = from_level l h in
        let p = all_tiles in
        omega arith

    -- ---- any row

    item_lighter : (s : ℕ) (i : Item) (new : List Three) → InRange i → item_move g t q s i ≡ bring new → total (burden g t) new < burden g t (encoded (row s i))
    unfolding item_move burden encoded
    item_lighter s (Group d l) new h e =
        let p = same_new (eqb l 0 || not (group_exists g q d l)) (map (waiting_row g t.reg q) (group_brings g q d l)) new e in
        let z = eqb-false l 0 (neither (eqb l 0) (not (group_exists g q d l)) p.0).0 in
        rw (← p.1, group_number d l h) (group_lighter d l (positive l z) h)
      where
        positive : (x : ℕ) → (x ≡ 0 → ⊥) → 0 < x
        positive zero f = absurd (f refl)
        positive (suc x) f = omega arith
    item_lighter s (Tile k) new h e =
        let p = same_new (leb (tile_count g) k || not (good_runs g t (allowed_runs g q k))) (map (waiting_row g t.reg q) (tile_brings g t q k)) new e in
        rw (← p.1) (tile_lighter k)
    item_lighter s (Footprint i) new h e = hands_out (bad_entry g t.reg i) (row_writes g t.reg q i s) new e

    -- a row weighs more than all that it brings
    pub lighter : (a : Three) (new : List Three) → move g t q a ≡ bring new → total (burden g t) new < burden g t a
    unfolding move
    lighter a new = go (decoded a) (read_stands a)
      where
        go : (o : Option Row) → Stands a o → read_move g t q o ≡ bring new → total (burden g t) new < burden g t a
        go None s e = no_damage new e
        go (Some r) s e = let p = s r refl in rw (← p.0) (item_lighter r.square r.item new p.1 e)
