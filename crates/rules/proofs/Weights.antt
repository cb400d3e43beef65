-- On an accepted grid, around an accepted point, the weight itself falls: a row weighs more than all that it brings. Assumes nothing.
use mathlib.Core.Path.{◌≡◌, refl, sym, ap, ap₂, ◌∙◌}
use mathlib.Core.Bool.{Bool, false, not, ◌||◌}
use mathlib.Core.List.{List, [], ◌∷◌, map}
use Prim.Native.Nat.{ℕ, ◌+◌, ◌-◌, ◌*◌, ◌<◌}
use native.Mathlib.Omega.{arith}
use lib.Dec.{leb, eqb}
use Rattle.std.specs.Prelude.{Option, Some, None}
use Rattle.laws.specs.Lists.{each, total}
use Rattle.laws.proofs.Tests.{by_bool}
use Rattle.laws.proofs.Totals.{total_append, total_map}
use Rattle.rules.specs.Sizes.{most_tiles, bad_sizes, bad_point, tile_count}
use Rattle.rules.specs.Register.{bad_entry}
use Rattle.rules.specs.Tables.{Tables, run_at, good_runs}
use Rattle.rules.specs.Search.{allowed_runs}
use Rattle.rules.specs.Front.{encoded, decoded}
use Rattle.rules.specs.Walk.{group_exists, group_tiles, waiting_row, group_if, group_brings, tile_brings, bring, damage_if, row_writes, item_move, read_move, move, group_weight, weight}
use Rattle.rules.specs.declared.Row.{Row}
use Rattle.rules.specs.declared.Grid.{Grid}
use Rattle.rules.specs.declared.Point.{Point}
use Rattle.rules.specs.declared.Direction.{Direction}
use Rattle.rules.specs.declared.Item.{Item}
use Rattle.rules.specs.declared.Item.TheVariants.{Group, Tile, Footprint}
use Rattle.rules.specs.declared.Three.{Three}
use Rattle.rules.proofs.Burden.{burden, group_burden, burden_weight, from_level, group_number, no_damage, hands_out, same_new, lighter}
use Rattle.rules.proofs.InRange.{group_in_range}

module _ (g : Grid) (t : Tables) (q : Point) where
  -- of an item as it comes to wait
  abbrev item_weight : Item → ℕ
  item_weight i = weight g t (waiting_row g t.reg q i)

  abbrev item_burden : Item → ℕ
  item_burden i = burden g t (waiting_row g t.reg q i)

  tile_same : (k : ℕ) → item_weight (Tile k) ≡ item_burden (Tile k)
  unfolding weight burden waiting_row encoded
  tile_same k = refl

  footprint_same : (k : ℕ) → item_weight (Footprint k) ≡ item_burden (Footprint k)
  unfolding weight burden waiting_row encoded
  footprint_same k = refl

  group_same : (d : Direction) (l : ℕ) → 0 < l → l < 64 → item_weight (Group d l) ≡ item_burden (Group d l)
  unfolding weight burden waiting_row encoded
  group_same d l h k =
      ap (λ (m : ℕ). 1 + (most_tiles - m) * group_weight g t) (group_number d l k)
      ∙ sym (from_level g t l h)
      ∙ ap (group_burden g t) (sym (group_number d l k))

  total_both : (make : ℕ → Item) (l : List ℕ) → ((k : ℕ) → item_weight (make k) ≡ item_burden (make k)) → total item_weight (map make l) ≡ total item_burden (map make l)
  total_both make [] e = refl
  total_both make (k ∷ l) e = ap₂ (λ (a b : ℕ). a + b) (e k) (total_both make l e)

  module _ (sized : bad_sizes g ≡ false) (on : bad_point g q ≡ false) where
    next_same : (l : ℕ) (d : Direction) → total item_weight (group_if g q (l + 1) d) ≡ total item_burden (group_if g q (l + 1) d)
    unfolding group_if
    next_same l d =
        by_bool (group_exists g q d (l + 1))
        (λ e. rw e (ap (λ (a : ℕ). a + 0) (group_same d (l + 1) (omega arith) (group_in_range g q d (l + 1) sized on e))))
        (λ e. rw e refl)

    group_brings_same : (d : Direction) (l : ℕ) → total item_weight (group_brings g q d l) ≡ total item_burden (group_brings g q d l)
    unfolding group_brings
    group_brings_same d l =
        total_append item_weight (map Tile (group_tiles g q d l)) (group_if g q (l + 1) d)
        ∙ ap₂ (λ (a b : ℕ). a + b) (total_both Tile (group_tiles g q d l) tile_same) (next_same l d)
        ∙ sym (total_append item_burden (map Tile (group_tiles g q d l)) (group_if g q (l + 1) d))

    tile_brings_same : (k : ℕ) → total item_weight (tile_brings g t q k) ≡ total item_burden (tile_brings g t q k)
    unfolding tile_brings
    tile_brings_same k = total_both Footprint (each (run_at t) (allowed_runs g q k)) footprint_same

    rows_same : (b : Bool) (items : List Item) (new : List Three) → total item_weight items ≡ total item_burden items
        → damage_if b (bring (map (waiting_row g t.reg q) items)) ≡ bring new → total (weight g t) new ≡ total (burden g t) new
    rows_same b items new e f =
        let p = same_new b (map (waiting_row g t.reg q) items) new f in
        rw (← p.1) (total_map (weight g t) (waiting_row g t.reg q) items ∙ e ∙ sym (total_map (burden g t) (waiting_row g t.reg q) items))

    brings_same : (s : ℕ) (i : Item) (new : List Three) → item_move g t q s i ≡ bring new → total (weight g t) new ≡ total (burden g t) new
    unfolding item_move
    brings_same s (Group d l) new e = rows_same (eqb l 0 || not (group_exists g q d l)) (group_brings g q d l) new (group_brings_same d l) e
    brings_same s (Tile k) new e =
        rows_same (leb (tile_count g) k || not (good_runs g t (allowed_runs g q k))) (tile_brings g t q k) new (tile_brings_same k) e
    brings_same s (Footprint i) new e = hands_out (bad_entry g t.reg i) (row_writes g t.reg q i s) new e

    -- a row weighs more than all that it brings
    pub weight_falls : (a : Three) (new : List Three) → move g t q a ≡ bring new → total (weight g t) new < weight g t a
    unfolding move
    weight_falls a new e = omega (arith, same a new e, lighter g t q a new e, burden_weight g t a)
      where
        go : (new : List Three) (o : Option Row) → read_move g t q o ≡ bring new → total (weight g t) new ≡ total (burden g t) new
        go new None e = no_damage new e
        go new (Some r) e = brings_same r.square r.item new e

        same : (a : Three) (new : List Three) → move g t q a ≡ bring new → total (weight g t) new ≡ total (burden g t) new
        same a new e = go new (decoded a) e
