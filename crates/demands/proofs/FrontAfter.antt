-- What waits after a footprint of square d was given is, row for row, the front that the rules name for that square. Assumes nothing.
use mathlib.Core.Path.{◌≡◌, refl, sym, ap, ◌∙◌}
use mathlib.Core.Logic.{◌⊎◌, inl, inr}
use mathlib.Core.Bool.{true}
use mathlib.Core.List.{List, [], ◌∷◌, ◌++◌, map, Memᴰ}
use Prim.Native.Nat.{ℕ, ◌+◌, ◌≤◌, ◌<◌, zero-le}
use native.Mathlib.Nat.{lt_irrefl, le_of_eq}
use native.Mathlib.Omega.{arith}
use lib.Dec.{leb, eqb}
use lib.ListN.{take}
use Rattle.laws.specs.Lists.{filter, from, up_to, each, any}
use Rattle.laws.proofs.Members.{mem_filter, filter_mem, each_mem, mem_each}
use Rattle.laws.proofs.Ranges.{mem_from, from_mem}
use Rattle.laws.proofs.Apart.{Apart, apart_append, apart_filter, apart_map}
use Rattle.laws.proofs.Forest.{named_in_order}
use Rattle.rules.specs.Sizes.{tile_count, tiles}
use Rattle.rules.specs.Register.{count, footprints}
use Rattle.rules.specs.Front.{directions}
use Rattle.rules.specs.Walk.{square_of, waiting_row}
use Rattle.rules.specs.Waits.{groups_wait, tile_waits, footprint_waits, wait_items, front_after}
use Rattle.rules.specs.declared.Grid.{Grid}
use Rattle.rules.specs.declared.Point.{Point}
use Rattle.rules.specs.declared.Direction.{Direction}
use Rattle.rules.specs.declared.Item.{Item}
use Rattle.rules.specs.declared.Item.TheVariants.{Group, Tile, Footprint}
use Rattle.rules.proofs.Keys.{rows_ins_all}
use Rattle.demands.proofs.Around.{Around, key, Valid, parent, brings, small, one_key, same_tile, same_footprint}
use Rattle.demands.proofs.Opens.{forest}
use Rattle.demands.proofs.Everything.{in_directions, parent_key, waits, RestOf, footprint_there, there_footprint, apart_directions, four_directions}
use Rattle.demands.proofs.Machine.{rows_of}
use Rattle.demands.proofs.Named.{Waits, first_far, first_groups_law, group_named, all_groups_named, tile_named, all_tiles_named, footprint_named, all_footprints_named}

module _ {g : Grid} {reg : List ℕ} {q : Point} (S : Around g reg q) (last : ℕ) (there-last : last < count reg) (given : List ℕ)
    (given_is : (i : ℕ) → i < count reg → any (eqb i) given ≡ leb (key g reg q (Footprint i)) (key g reg q (Footprint last))) where
  abbrev K : Item → ℕ
  K z = key g reg q z

  abbrev D : ℕ
  D = square_of g reg q (Footprint last)

  abbrev groups : List Item
  groups = each (groups_wait g reg q D) directions

  abbrev waiting_tiles : List ℕ
  waiting_tiles = filter (tile_waits g reg q D) (tiles g)

  abbrev waiting_footprints : List ℕ
  waiting_footprints = filter (footprint_waits g reg q D given) (footprints reg)

  abbrev W : Item → Type 0
  W z = Waits S last there-last z

  group_waits : (z : Item) → Memᴰ z groups → (d : Direction) × (l : ℕ) × (z ≡ Group d l) × W z
  group_waits z m =
      let e = mem_each (groups_wait g reg q D) directions m in
      let o = group_named S last there-last e.0 e.2 in
      (e.0, o.0, o.1, o.2)

  tile_waits_law : (t : ℕ) → Memᴰ t waiting_tiles → W (Tile t)
  unfolding tiles
  tile_waits_law t m =
      let f : Memᴰ t (up_to (tile_count g)) × (tile_waits g reg q D t ≡ true) = mem_filter (tile_waits g reg q D) (up_to (tile_count g)) m in
      let k : (0 ≤ t) × (t < 0 + tile_count g) = mem_from 0 (tile_count g) f.0 in
      tile_named S last there-last t (omega arith) f.1

  footprint_waits_law : (i : ℕ) → Memᴰ i waiting_footprints → W (Footprint i)
  footprint_waits_law i m =
      let f = mem_filter (footprint_waits g reg q D given) (footprints reg) m in
      footprint_named S last there-last given given_is i (footprint_there S i f.0) f.1

  -- the items that the rules name wait
  named : (z : Item) → Memᴰ z (wait_items g reg q D given) → W z
  unfolding wait_items
  named z m = go (mathlib.Core.List.Memᴰ.append_cases groups m)
    where
      second : Memᴰ z (map Tile waiting_tiles) ⊎ Memᴰ z (map Footprint waiting_footprints) → W z
      second (inl n) = let o = mathlib.Core.List.Memᴰ.of_map Tile waiting_tiles n in rw (sym o.2) (tile_waits_law o.0 o.1)
      second (inr n) = let o = mathlib.Core.List.Memᴰ.of_map Footprint waiting_footprints n in rw (sym o.2) (footprint_waits_law o.0 o.1)

      go : Memᴰ z groups ⊎ Memᴰ z (map Tile waiting_tiles ++ map Footprint waiting_footprints) → W z
      go (inl n) = (group_waits z n).3
      go (inr n) = second (mathlib.Core.List.Memᴰ.append_cases (map Tile waiting_tiles) n)

  -- and all that wait are named
  all_named : (z : Item) → W z → Memᴰ z (wait_items g reg q D given)
  unfolding wait_items tiles
  all_named (Group d l) w =
      mathlib.Core.List.Memᴰ.append_left (map Tile waiting_tiles ++ map Footprint waiting_footprints)
      (each_mem (groups_wait g reg q D) directions (in_directions d) (all_groups_named S last there-last d l w))
  all_named (Tile t) w =
      mathlib.Core.List.Memᴰ.append_right groups
      (mathlib.Core.List.Memᴰ.append_left (map Footprint waiting_footprints)
      (mathlib.Core.List.Memᴰ.map Tile (filter_mem (tile_waits g reg q D) (up_to (tile_count g)) (from_mem 0 (tile_count g) t zero-le (omega (arith, w.0.0))) (all_tiles_named S last there-last t w))))
  all_named (Footprint i) w =
      mathlib.Core.List.Memᴰ.append_right groups
      (mathlib.Core.List.Memᴰ.append_right (map Tile waiting_tiles)
      (mathlib.Core.List.Memᴰ.map Footprint (filter_mem (footprint_waits g reg q D given) (footprints reg) (there_footprint S i w.0) (all_footprints_named S last there-last given given_is i w))))

  -- ---- no two of them are one

  single : (d : Direction) → Apart K (groups_wait g reg q D d)
  single d = rw (first_groups_law S last there-last d) (at_most_one (filter (first_far S last there-last d) (from 1 g.n)))
    where
      at_most_one : (l : List ℕ) → Apart K (map (Group d) (take 1 l))
      at_most_one [] = tt
      at_most_one (x ∷ l) = (refl, tt)

  apart_groups : Apart K groups
  apart_groups =
      apart_directions S (groups_wait g reg q D) single (λ d z m. let o = group_named S last there-last d m in (o.0, o.1, o.2.0)) directions (four_directions S)

  apart_tiles : Apart K (map Tile waiting_tiles)
  apart_tiles =
      apart_map K Tile waiting_tiles (unfold tiles in apart_filter (tile_waits g reg q D) 0 (tile_count g))
      (λ a b ma mb e. same_tile a b (one_key S (Tile a) (Tile b) (tile_waits_law a ma).0 (tile_waits_law b mb).0 e))

  apart_footprints : Apart K (map Footprint waiting_footprints)
  apart_footprints =
      apart_map K Footprint waiting_footprints (unfold footprints in apart_filter (footprint_waits g reg q D given) 0 (count reg))
      (λ a b ma mb e. same_footprint a b (one_key S (Footprint a) (Footprint b) (footprint_waits_law a ma).0 (footprint_waits_law b mb).0 e))

  apart_items : Apart K (wait_items g reg q D given)
  unfolding wait_items
  apart_items =
      apart_append K groups (map Tile waiting_tiles ++ map Footprint waiting_footprints) apart_groups
      (apart_append K (map Tile waiting_tiles) (map Footprint waiting_footprints) apart_tiles apart_footprints
      (λ y z p r e. tile_footprint y z (mathlib.Core.List.Memᴰ.of_map Tile waiting_tiles p) (mathlib.Core.List.Memᴰ.of_map Footprint waiting_footprints r) e))
      (λ y z p r e. group_other y z (group_waits y p) (mathlib.Core.List.Memᴰ.append_cases (map Tile waiting_tiles) r) e)
    where
      tile_footprint : (y z : Item) → (t : ℕ) × Memᴰ t waiting_tiles × (Tile t ≡ y) → (i : ℕ) × Memᴰ i waiting_footprints × (Footprint i ≡ z) → K y ≡ K z → ⊥
      tile_footprint y z o r e =
          let a : Tile o.0 ≡ y = o.2 in
          let b : Footprint r.0 ≡ z = r.2 in
          let f : y ≡ z = one_key S y z (rw (sym a) (tile_waits_law o.0 o.1).0) (rw (sym b) (footprint_waits_law r.0 r.1).0) e in
          let u : ◌≡◌ {A = ℕ} 0 1 = cc in lt_irrefl 0 (le_of_eq (sym u))

      group_other : (y z : Item) → (d : Direction) × (l : ℕ) × (y ≡ Group d l) × W y
          → Memᴰ z (map Tile waiting_tiles) ⊎ Memᴰ z (map Footprint waiting_footprints) → K y ≡ K z → ⊥
      group_other y z o (inl n) e =
          let r = mathlib.Core.List.Memᴰ.of_map Tile waiting_tiles n in
          let a : y ≡ Group o.0 o.1 = o.2 in
          let b : Tile r.0 ≡ z = r.2 in
          let f : y ≡ z = one_key S y z o.3.0 (rw (sym b) (tile_waits_law r.0 r.1).0) e in
          let u : ◌≡◌ {A = ℕ} 0 1 = cc in lt_irrefl 0 (le_of_eq (sym u))
      group_other y z o (inr n) e =
          let r = mathlib.Core.List.Memᴰ.of_map Footprint waiting_footprints n in
          let a : y ≡ Group o.0 o.1 = o.2 in
          let b : Footprint r.0 ≡ z = r.2 in
          let f : y ≡ z = one_key S y z o.3.0 (rw (sym b) (footprint_waits_law r.0 r.1).0) e in
          let u : ◌≡◌ {A = ℕ} 0 1 = cc in lt_irrefl 0 (le_of_eq (sym u))

  -- ---- so they are the front

  pub front_after_law : (l : List Item) → RestOf g reg q (K (Footprint last)) l → rows_of g reg q (waits g reg q (K (Footprint last)) l) ≡ front_after g reg q D given
  unfolding front_after
  front_after_law l R =
      sym (rows_ins_all (waiting_row g reg q) (wait_items g reg q D given) [] (λ z m. small S z (named z m).0) (λ z m. absurd (mathlib.Core.List.Memᴰ.not-nil m))
      ∙ ap (rows_of g reg q)
      (named_in_order K (Valid g reg q) (parent g reg q) (brings g reg q) (forest S) (K (Footprint last)) l R (wait_items g reg q D given)
      (λ z. leb (parent_key g reg q z) (K (Footprint last))) apart_items named (λ z v k e. all_named z (v, k, e))))
