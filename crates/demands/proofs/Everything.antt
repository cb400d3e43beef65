-- All groups, tiles and footprints around a point in the order of a walk, and the start as those that nothing brings. Assumes nothing.
use mathlib.Core.Path.{◌≡◌, refl, sym, ◌∙◌}
use mathlib.Core.Logic.{◌⊎◌, inl, inr}
use mathlib.Core.Bool.{Bool, true, false, cond, not}
use mathlib.Core.Option.{Option, none, some}
use mathlib.Core.List.{List, [], ◌∷◌, ◌++◌, map, Memᴰ}
use Prim.Native.Nat.{ℕ, zero, suc, ◌+◌, ◌≤◌, ◌<◌, zero-le}
use native.Mathlib.Nat.{le_trans, le_of_eq, lt_irrefl}
use native.Mathlib.Omega.{arith}
use lib.Dec.{leb, eqb}
use borrow.Author.Tests.{eqb-true, eqb-false, leb-true, eq-eqb, ne_eqb}
use Rattle.laws.specs.Lists.{filter, from, up_to, each}
use Rattle.laws.proofs.Tests.{not_not}
use Rattle.laws.proofs.Members.{mem_filter, filter_mem, each_mem, mem_each}
use Rattle.laws.proofs.Ranges.{mem_from, from_mem}
use Rattle.laws.proofs.Apart.{has_not, Apart, apart_append}
use Rattle.laws.proofs.Ordered.{ins_all}
use Rattle.laws.proofs.Forest.{front, par, Rest, named_in_order}
use Rattle.laws.proofs.Gather.{gather, gather_above, gather_sound, gather_complete}
use Rattle.rules.specs.Sizes.{tile_count, tiles, tile_of}
use Rattle.rules.specs.Register.{count, footprints}
use Rattle.rules.specs.Tables.{built_run}
use Rattle.rules.specs.Search.{allowed_runs}
use Rattle.rules.specs.Front.{direction_no, directions}
use Rattle.rules.specs.Walk.{group_exists, group_if}
use Rattle.rules.specs.Waits.{levels}
use Rattle.rules.specs.declared.Grid.{Grid}
use Rattle.rules.specs.declared.Point.{Point}
use Rattle.rules.specs.declared.Direction.{Direction}
use Rattle.rules.specs.declared.Direction.TheVariants.{Up, Right, Down, Left}
use Rattle.rules.specs.declared.Item.{Item}
use Rattle.rules.specs.declared.Item.TheVariants.{Group, Tile, Footprint}
use Rattle.demands.proofs.Around.{Around, key, Valid, tile_for, parent, brings, one_key, key_pos, level_lt}
use Rattle.demands.proofs.Reported.{of_tile, reported_in, apart_footprints}
use Rattle.demands.proofs.Opens.{forest, above_parent, next_group, group_there, apart_next}

pub in_directions : (d : Direction) → Memᴰ d directions
in_directions Up = mathlib.Core.List.Memᴰ.head refl
in_directions Right = mathlib.Core.List.Memᴰ.tail (mathlib.Core.List.Memᴰ.head refl)
in_directions Down = mathlib.Core.List.Memᴰ.tail (mathlib.Core.List.Memᴰ.tail (mathlib.Core.List.Memᴰ.head refl))
in_directions Left = mathlib.Core.List.Memᴰ.tail (mathlib.Core.List.Memᴰ.tail (mathlib.Core.List.Memᴰ.tail (mathlib.Core.List.Memᴰ.head refl)))

module _ (g : Grid) (reg : List ℕ) (q : Point) where
  abbrev groups_of : Direction → List Item
  groups_of d = map (Group d) (levels g q d)

  abbrev is_other : ℕ → Bool
  is_other t = not (eqb t (tile_of g q))

  abbrev other_tiles : List Item
  other_tiles = map Tile (filter is_other (tiles g))

  abbrev all_footprints : List Item
  all_footprints = map Footprint (footprints reg)

  abbrev pub everything : List Item
  everything = each groups_of directions ++ (other_tiles ++ all_footprints)

  -- all that there is, in order
  unfoldable pub ordered : List Item
  ordered = gather (key g reg q) everything

  -- Tq's footprints and the level 1 groups
  abbrev pub roots : List Item
  roots = map Footprint (each (built_run g reg) (allowed_runs g q (tile_of g q))) ++ each (group_if g q 1) directions

  -- the place of what brings an item, 0 where the start does
  abbrev pub parent_key : Item → ℕ
  parent_key z = par (key g reg q) (Valid g reg q) (parent g reg q) (brings g reg q) z

  -- what waits when all up to place c is taken, and l is the rest in order
  abbrev pub waits : ℕ → List Item → List Item
  waits c l = front (key g reg q) parent_key (brings g reg q) c l

  abbrev pub RestOf : ℕ → List Item → Type 0
  RestOf c l = Rest (key g reg q) (Valid g reg q) (parent g reg q) (brings g reg q) c l

module _ {g : Grid} {reg : List ℕ} {q : Point} (S : Around g reg q) where
  abbrev K : Item → ℕ
  K z = key g reg q z

  abbrev There : Item → Type 0
  There z = Valid g reg q z

  -- ---- all of them

  pub in_levels : (d : Direction) (l : ℕ) → Memᴰ l (levels g q d) → There (Group d l)
  unfolding levels
  in_levels d l m =
      let f : Memᴰ l (from 1 g.n) × (group_exists g q d l ≡ true) = mem_filter (group_exists g q d) (from 1 g.n) m in
      ((mem_from 1 g.n f.0).0, f.1)

  pub levels_in : (d : Direction) (l : ℕ) → There (Group d l) → Memᴰ l (levels g q d)
  unfolding levels
  levels_in d l v = filter_mem (group_exists g q d) (from 1 g.n) (from_mem 1 g.n l v.0 (omega (arith, level_lt S d l v.1))) v.1

  tile_there : (t : ℕ) → Memᴰ t (filter (is_other g reg q) (tiles g)) → There (Tile t)
  unfolding tiles
  tile_there t m =
      let f : Memᴰ t (up_to (tile_count g)) × (is_other g reg q t ≡ true) = mem_filter (is_other g reg q) (up_to (tile_count g)) m in
      let k : (0 ≤ t) × (t < 0 + tile_count g) = mem_from 0 (tile_count g) f.0 in
      (omega arith, eqb-false _ _ (not_not (eqb t (tile_of g q)) f.1))

  pub footprint_there : (i : ℕ) → Memᴰ i (footprints reg) → There (Footprint i)
  unfolding footprints
  footprint_there i m = let k : (0 ≤ i) × (i < 0 + count reg) = mem_from 0 (count reg) m in omega arith

  pub there_footprint : (i : ℕ) → There (Footprint i) → Memᴰ i (footprints reg)
  unfolding footprints
  there_footprint i v = from_mem 0 (count reg) i zero-le (omega arith)

  all_there : (z : Item) → Memᴰ z (everything g reg q) → There z
  all_there z m = go (mathlib.Core.List.Memᴰ.append_cases (each (groups_of g reg q) directions) m)
    where
      group : (d : Direction) × Memᴰ d directions × Memᴰ z (groups_of g reg q d) → There z
      group e = let o = mathlib.Core.List.Memᴰ.of_map (Group e.0) (levels g q e.0) e.2 in rw (sym o.2) (in_levels e.0 o.0 o.1)

      second : Memᴰ z (other_tiles g reg q) ⊎ Memᴰ z (all_footprints g reg q) → There z
      second (inl n) = let o = mathlib.Core.List.Memᴰ.of_map Tile (filter (is_other g reg q) (tiles g)) n in rw (sym o.2) (tile_there o.0 o.1)
      second (inr n) = let o = mathlib.Core.List.Memᴰ.of_map Footprint (footprints reg) n in rw (sym o.2) (footprint_there o.0 o.1)

      go : Memᴰ z (each (groups_of g reg q) directions) ⊎ Memᴰ z (other_tiles g reg q ++ all_footprints g reg q) → There z
      go (inl n) = group (mem_each (groups_of g reg q) directions n)
      go (inr n) = second (mathlib.Core.List.Memᴰ.append_cases (other_tiles g reg q) n)

  there_all : (z : Item) → There z → Memᴰ z (everything g reg q)
  unfolding tiles
  there_all (Group d l) v =
      mathlib.Core.List.Memᴰ.append_left (other_tiles g reg q ++ all_footprints g reg q)
      (each_mem (groups_of g reg q) directions (in_directions d) (mathlib.Core.List.Memᴰ.map (Group d) (levels_in d l v)))
  there_all (Tile t) v =
      mathlib.Core.List.Memᴰ.append_right (each (groups_of g reg q) directions)
      (mathlib.Core.List.Memᴰ.append_left (all_footprints g reg q)
      (mathlib.Core.List.Memᴰ.map Tile (filter_mem (is_other g reg q) (up_to (tile_count g)) (from_mem 0 (tile_count g) t zero-le (omega (arith, v.0))) (rw (ne_eqb t (tile_of g q) v.1)))))
  there_all (Footprint i) v =
      mathlib.Core.List.Memᴰ.append_right (each (groups_of g reg q) directions) (mathlib.Core.List.Memᴰ.append_right (other_tiles g reg q) (mathlib.Core.List.Memᴰ.map Footprint (there_footprint i v)))

  -- before anything is taken all is left
  pub all_left : RestOf g reg q 0 (ordered g reg q)
  unfolding ordered
  all_left = record {
    up = gather_above K 0 (everything g reg q) (λ z m. key_pos S z (all_there z m));
    sound = λ z m. all_there z (gather_sound K (everything g reg q) m);
    complete = λ z v k. gather_complete K (everything g reg q) (λ a b p r e. one_key S a b (all_there a p) (all_there b r) e) (there_all z v);
  }

  -- ---- the start: what nothing brings

  pub root_of : (z : Item) → Memᴰ z (roots g reg q) → There z × (parent g reg q z ≡ none)
  root_of z m = go (mathlib.Core.List.Memᴰ.append_cases (map Footprint (each (built_run g reg) (allowed_runs g q (tile_of g q)))) m)
    where
      group : (d : Direction) × Memᴰ d directions × Memᴰ z (group_if g q 1 d) → There z × (parent g reg q z ≡ none)
      group e = let o = next_group S e.0 1 e.2 in rw o.0 ((omega arith, o.1), refl)

      go : Memᴰ z (map Footprint (each (built_run g reg) (allowed_runs g q (tile_of g q)))) ⊎ Memᴰ z (each (group_if g q 1) directions)
          → There z × (parent g reg q z ≡ none)
      go (inl n) = let o = of_tile S (tile_of g q) n in rw (sym o.3) ((o.1, rw (eq-eqb (tile_for g reg q o.0) (tile_of g q) o.2)))
      go (inr n) = group (mem_each (group_if g q 1) directions n)

  abbrev InRoots : Item → Option Item → Type 0
  InRoots z none = Memᴰ z (roots g reg q)
  InRoots z (some y) = Unit {0}

  root_in : (z : Item) → There z → InRoots z (parent g reg q z)
  root_in (Group d zero) v = absurd (lt_irrefl 0 v.0)
  root_in (Group d (suc zero)) v =
      mathlib.Core.List.Memᴰ.append_right (map Footprint (each (built_run g reg) (allowed_runs g q (tile_of g q)))) (each_mem (group_if g q 1) directions (in_directions d) (group_there S d 1 v.1))
  root_in (Group d (suc (suc l))) v = tt
  root_in (Tile t) v = tt
  root_in (Footprint i) v = go (eqb (tile_for g reg q i) (tile_of g q)) refl
    where
      go : (b : Bool) → eqb (tile_for g reg q i) (tile_of g q) ≡ b → InRoots (Footprint i) (cond b none (some (Tile (tile_for g reg q i))))
      go true e = mathlib.Core.List.Memᴰ.append_left (each (group_if g q 1) directions) (rw (eqb-true (tile_for g reg q i) (tile_of g q) e) at (reported_in S i v))
      go false e = tt

  -- groups of each direction are apart where those of one are
  pub apart_directions : (f : Direction → List Item) → ((d : Direction) → Apart K (f d))
      → ((d : Direction) (z : Item) → Memᴰ z (f d) → (l : ℕ) × (z ≡ Group d l) × There z)
      → (ds : List Direction) → Apart direction_no ds → Apart K (each f ds)
  apart_directions f one groups [] a = tt
  apart_directions f one groups (d ∷ ds) a =
      apart_append K (f d) (each f ds) (one d) (apart_directions f one groups ds a.1) (λ y z p r e. clash y z p e (mem_each f ds r))
    where
      same : (d e : Direction) (k l : ℕ) → Group d k ≡ Group e l → d ≡ e
      same d e k l p = cc

      clash : (y z : Item) → Memᴰ y (f d) → K y ≡ K z → (e : Direction) × Memᴰ e ds × Memᴰ z (f e) → ⊥
      clash y z p k r =
          let u = groups d y p in
          let w = groups r.0 z r.2 in
          let same-direction : d ≡ r.0 = same d r.0 u.0 w.0 (sym u.1 ∙ one_key S y z u.2 w.2 k ∙ w.1) in
          has_not direction_no d ds a.0 (mathlib.Core.List.Memᴰ.cast same-direction r.1)

  pub four_directions : Apart direction_no directions
  four_directions = (refl, (refl, (refl, (refl, tt))))

  apart_level : Apart K (each (group_if g q 1) directions)
  apart_level =
      apart_directions (group_if g q 1) (λ d. apart_next S d 1)
      (λ d z m. let u = next_group S d 1 m in (1, u.0, rw u.0 ((omega arith, u.1)))) directions four_directions

  apart_roots : Apart K (roots g reg q)
  apart_roots =
      apart_append K (map Footprint (each (built_run g reg) (allowed_runs g q (tile_of g q)))) (each (group_if g q 1) directions)
      (apart_footprints S (tile_of g q)) apart_level
      (λ y z p r e. clash y z (of_tile S (tile_of g q) p) (mem_each (group_if g q 1) directions r)
      (one_key S y z (root_of y (mathlib.Core.List.Memᴰ.append_left (each (group_if g q 1) directions) p)).0
      (root_of z (mathlib.Core.List.Memᴰ.append_right (map Footprint (each (built_run g reg) (allowed_runs g q (tile_of g q)))) r)).0 e))
    where
      clash : (y z : Item) → (i : ℕ) × (i < count reg) × (tile_for g reg q i ≡ tile_of g q) × (Footprint i ≡ y)
          → (d : Direction) × Memᴰ d directions × Memᴰ z (group_if g q 1 d) → y ≡ z → ⊥
      clash y z o r e =
          let h : Footprint o.0 ≡ y = o.3 in
          let w : z ≡ Group r.0 1 = (next_group S r.0 1 r.2).0 in
          let u : ◌≡◌ {A = ℕ} 0 1 = cc in lt_irrefl 0 (le_of_eq (sym u))

  -- the roots, put in one by one, are what waits before anything is taken
  pub start_waits : ins_all K (roots g reg q) [] ≡ waits g reg q 0 (ordered g reg q)
  start_waits =
      named_in_order K (Valid g reg q) (parent g reg q) (brings g reg q) (forest S) 0 (ordered g reg q) all_left (roots g reg q)
      (λ z. leb (parent_key g reg q z) 0) apart_roots
      (λ z m. let r = root_of z m in (r.0, key_pos S z r.0, rw r.1 refl)) (λ z v k e. back z v e (parent g reg q z) refl)
    where
      back : (z : Item) → There z → leb (parent_key g reg q z) 0 ≡ true → (o : Option Item) → parent g reg q z ≡ o → Memᴰ z (roots g reg q)
      back z v e none f = rw f at (root_in z v)
      back z v e (some y) f =
          let a = above_parent S z y v f in
          let u : K y ≤ 0 = leb-true (K y) 0 (rw f at e) in
          absurd (lt_irrefl 0 (le_trans (key_pos S y a.0) u))
