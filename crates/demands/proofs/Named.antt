-- What waits after a footprint of square d was given is what the rules name: footprints not given whose reporting tile is Tq or has square
-- at most d, tiles of square over d whose group has square at most d, and of each direction the first group of square over d. Assumes nothing.
use mathlib.Core.Path.{◌≡◌, refl, sym, ap, ap₂, ◌∙◌}
use mathlib.Core.Logic.{◌↔◌}
use mathlib.Core.Bool.{Bool, true, false, not, cond, ◌&&◌, ◌||◌}
use mathlib.Core.Option.{none, some}
use mathlib.Core.List.Memᴰ
use mathlib.Core.List.{List, map, Memᴰ}
use Prim.Native.Nat.{ℕ, zero, suc, ◌≤◌, ◌<◌, zero-le, suc-le-suc}
use native.Mathlib.Nat.{le_trans, lt_irrefl, le_of_eq}
use native.Mathlib.Numerals.{add-one}
use native.Mathlib.Omega.{arith}
use lib.Dec.{leb, ltb, eqb}
use lib.ListN.{take}
use borrow.Author.Tests.{leb-true, le-leb, lt-leb, ltb-true, ltb-false, lt-ltb, le-ltb, eqb-false}
use Rattle.laws.specs.Lists.{filter, from, any}
use Rattle.laws.proofs.Tests.{by_le, leb_same, fst_true, snd_true, both_true}
use Rattle.laws.proofs.Lists.{filter_filter}
use Rattle.laws.proofs.Filters.{any_mem, mem_any, First, first_in, in_first}
use Rattle.laws.proofs.Forest.{par_key}
use Rattle.rules.specs.Sizes.{tile_count, tile_of}
use Rattle.rules.specs.Register.{count, rectangle}
use Rattle.rules.specs.Front.{directions, encoded}
use Rattle.rules.specs.Walk.{group_exists, tile_in_group, square_of, waiting_row}
use Rattle.rules.specs.Waits.{levels, groups_wait, group_passed, tile_waits, footprint_waits}
use Rattle.rules.specs.declared.Grid.{Grid}
use Rattle.rules.specs.declared.Point.{Point}
use Rattle.rules.specs.declared.Direction.{Direction}
use Rattle.rules.specs.declared.Item.{Item}
use Rattle.rules.specs.declared.Item.TheVariants.{Group, Tile, Footprint}
use Rattle.rules.proofs.Report.{report_below}
use Rattle.rules.proofs.Items.{group_passed_law, tile_passed}
use Rattle.rules.proofs.Rings.{next_farther}
use Rattle.demands.proofs.Around.{Around, key, Valid, direction_in, level_in, tile_for, parent, brings, in_range, level_lt, sizes, good}
use Rattle.demands.proofs.Opens.{later, in_own_group, one_group, not_own}
use Rattle.demands.proofs.Everything.{in_directions, parent_key, in_levels, levels_in}

module _ {g : Grid} {reg : List ℕ} {q : Point} (S : Around g reg q) (last : ℕ) (there-last : last < count reg) where
  abbrev K : Item → ℕ
  K z = key g reg q z

  abbrev There : Item → Type 0
  There z = Valid g reg q z

  -- the square of the last row given, and its place
  abbrev D : ℕ
  D = square_of g reg q (Footprint last)

  abbrev C : ℕ
  C = K (Footprint last)

  -- waits at the place reached
  abbrev pub Waits : Item → Type 0
  Waits z = There z × (C < K z) × (leb (parent_key g reg q z) C ≡ true)

  group_behind : (d : Direction) (l : ℕ) → There (Group d l) → (K (Group d l) ≤ C) ↔ (square_of g reg q (Group d l) ≤ D)
  unfolding waiting_row encoded
  group_behind d l v = group_passed_law (square_of g reg q (Group d l)) D last (in_range S (Footprint last) there-last) d l (in_range S (Group d l) v)

  tile_behind : (t : ℕ) → There (Tile t) → (K (Tile t) ≤ C) ↔ (square_of g reg q (Tile t) ≤ D)
  unfolding waiting_row encoded
  tile_behind t v = tile_passed (square_of g reg q (Tile t)) D last (in_range S (Footprint last) there-last) t (in_range S (Tile t) v)

  -- what is not behind is ahead, and the other way round
  ahead : {a b c d : ℕ} → (a ≤ b) ↔ (c ≤ d) → d < c → b < a
  ahead {a} {b} {c} {d} f h = by_le a b (λ k. absurd (lt_irrefl d (le_trans h (f.0 k)))) (λ k. k)

  back : {a b c d : ℕ} → (a ≤ b) ↔ (c ≤ d) → b < a → d < c
  back {a} {b} {c} {d} f h = by_le c d (λ k. absurd (lt_irrefl b (le_trans h (f.1 k)))) (λ k. k)

  -- ---- groups

  abbrev far : Direction → ℕ → Bool
  far d l = ltb D (square_of g reg q (Group d l))

  abbrev pub first_far : Direction → ℕ → Bool
  first_far d l = group_exists g q d l && far d l

  pub first_groups_law : (d : Direction) → groups_wait g reg q D d ≡ map (Group d) (take 1 (filter (first_far d) (from 1 g.n)))
  unfolding groups_wait levels
  first_groups_law d = ap (λ (l : List ℕ). map (Group d) (take 1 l)) (filter_filter (far d) (group_exists g q d) (from 1 g.n))

  -- squares rise along a direction
  squares_rise : (d : Direction) (k l : ℕ) → k ≤ l → square_of g reg q (Group d k) ≤ square_of g reg q (Group d l)
  squares_rise d k zero h = le_of_eq (ap (λ (n : ℕ). square_of g reg q (Group d n)) (omega arith))
  squares_rise d k (suc l) h =
      by_le k l
      (λ u. le_trans (squares_rise d k l u) (rw add-one at (next_farther g (sizes S).side_pos reg q d l)))
      (λ u. le_of_eq (ap (λ (n : ℕ). square_of g reg q (Group d n)) (omega arith)))

  pub group_named : (d : Direction) {z : Item} → Memᴰ z (groups_wait g reg q D d) → (l : ℕ) × (z ≡ Group d l) × Waits z
  group_named d {z} m =
      let o = Memᴰ.of_map (Group d) (take 1 (filter (first_far d) (from 1 g.n))) (rw (first_groups_law d) at m) in
      let f = in_first (first_far d) 1 g.n o.0 o.1 in
      (o.0, sym o.2, rw (sym o.2) (waiting o.0 f))
    where
      opened : (l : ℕ) → First (first_far d) 1 g.n l → There (Group d l) → leb (parent_key g reg q (Group d l)) C ≡ true
      opened zero f v = absurd (lt_irrefl 0 v.0)
      opened (suc zero) f v = le-leb 0 C zero-le
      opened (suc (suc l)) f v =
          let u : There (Group d (suc l)) = (later S (Group d (suc (suc l))) v).0 in
          let e : first_far d (suc l) ≡ false = f.3 (suc l) (suc-le-suc zero-le) (omega arith) in
          le-leb _ _ ((group_behind d (suc l) u).1 (ltb-false _ _ (near (suc l) e u.1)))
        where
          near : (l : ℕ) → first_far d l ≡ false → group_exists g q d l ≡ true → far d l ≡ false
          near l e f = rw f at e

      waiting : (l : ℕ) → First (first_far d) 1 g.n l → Waits (Group d l)
      waiting l f =
          let v : There (Group d l) = (f.0, fst_true (group_exists g q d l) (far d l) f.2) in
          (v, ahead (group_behind d l v) (ltb-true _ _ (snd_true (group_exists g q d l) (far d l) f.2)), opened l f v)

  pub all_groups_named : (d : Direction) (l : ℕ) → Waits (Group d l) → Memᴰ (Group d l) (groups_wait g reg q D d)
  all_groups_named d l w =
      rw (first_groups_law d, first_in (first_far d) 1 g.n l (w.0.0, omega (arith, level_lt S d l w.0.1), both_true w.0.1 (lt-ltb _ _ here), nearer l w)) (Memᴰ.head refl)
    where
      here : D < square_of g reg q (Group d l)
      here = back (group_behind d l w.0) w.1

      nearer : (l : ℕ) → Waits (Group d l) → (m : ℕ) → 1 ≤ m → m < l → first_far d m ≡ false
      nearer zero w m h k = absurd (lt_irrefl 0 (omega arith))
      nearer (suc zero) w m h k = absurd (lt_irrefl 0 (omega arith))
      nearer (suc (suc l)) w m h k =
          let u : There (Group d (suc l)) = (later S (Group d (suc (suc l))) w.0).0 in
          let b : square_of g reg q (Group d (suc l)) ≤ D = (group_behind d (suc l) u).0 (leb-true _ _ w.2) in
          near (group_exists g q d m) (le-ltb _ _ (le_trans (squares_rise d m (suc l) (omega arith)) b))
        where
          near : (b : Bool) → far d m ≡ false → (b && far d m) ≡ false
          near true e = e
          near false e = refl

  -- ---- tiles

  abbrev passed_in : ℕ → Direction → ℕ → Bool
  passed_in t d l = tile_in_group g q d l t && leb (square_of g reg q (Group d l)) D

  abbrev passed_of : ℕ → Direction → Bool
  passed_of t d = any (passed_in t d) (levels g q d)

  passed_group : (t : ℕ) → group_passed g reg q D t ≡ true
      → (d : Direction) × (l : ℕ) × Memᴰ l (levels g q d) × (tile_in_group g q d l t ≡ true) × (square_of g reg q (Group d l) ≤ D)
  unfolding group_passed
  passed_group t e =
      let a = mem_any (passed_of t) directions e in
      let b = mem_any (passed_in t a.0) (levels g q a.0) a.2 in
      let near = leb (square_of g reg q (Group a.0 b.0)) D in
      (a.0, b.0, b.1, fst_true (tile_in_group g q a.0 b.0 t) near b.2, leb-true _ _ (snd_true (tile_in_group g q a.0 b.0 t) near b.2))

  group_passes : (t : ℕ) (d : Direction) (l : ℕ) → Memᴰ l (levels g q d) → tile_in_group g q d l t ≡ true → square_of g reg q (Group d l) ≤ D
      → group_passed g reg q D t ≡ true
  unfolding group_passed
  group_passes t d l m e h = any_mem (passed_of t) directions (in_directions d) (any_mem (passed_in t d) (levels g q d) m (both_true e (le-leb _ _ h)))

  pub tile_named : (t : ℕ) → t < tile_count g → tile_waits g reg q D t ≡ true → Waits (Tile t)
  unfolding tile_waits
  tile_named t h e =
      let p = passed_group t (snd_true (ltb D (square_of g reg q (Tile t))) _ e) in
      let vg : There (Group p.0 p.1) = in_levels S p.0 p.1 p.2 in
      let v : There (Tile t) = (h, not_own S p.0 p.1 t vg.0 p.3) in (
        v,
        ahead (tile_behind t v) (ltb-true _ _ (fst_true (ltb D (square_of g reg q (Tile t))) _ e)),
        le-leb _ _ (le_trans (le_of_eq (ap K (one_group S p.0 p.1 t vg.0 p.3))) ((group_behind p.0 p.1 vg).1 p.4)),
      )

  pub all_tiles_named : (t : ℕ) → Waits (Tile t) → tile_waits g reg q D t ≡ true
  unfolding tile_waits
  all_tiles_named t w =
      let b = in_own_group S t w.0 in
      both_true (lt-ltb _ _ (back (tile_behind t w.0) w.1))
      (group_passes t (direction_in g reg q t) (level_in g reg q t) (levels_in S (direction_in g reg q t) (level_in g reg q t) b.0) b.1
      ((group_behind (direction_in g reg q t) (level_in g reg q t) b.0).0 (leb-true _ _ w.2)))

  -- ---- footprints, where those given are those up to the place reached

  module _ (given : List ℕ) (given_is : (i : ℕ) → i < count reg → any (eqb i) given ≡ leb (K (Footprint i)) C) where
    brought_by : (i : ℕ) → i < count reg
        → (eqb (tile_for g reg q i) (tile_of g q) || leb (square_of g reg q (Tile (tile_for g reg q i))) D) ≡ leb (parent_key g reg q (Footprint i)) C
    brought_by i v = go (eqb (tile_for g reg q i) (tile_of g q)) refl
      where
        go : (b : Bool) → eqb (tile_for g reg q i) (tile_of g q) ≡ b
            → (b || leb (square_of g reg q (Tile (tile_for g reg q i))) D)
            ≡ leb (par_key (key g reg q) (Valid g reg q) (parent g reg q) (brings g reg q) (cond b none (some (Tile (tile_for g reg q i))))) C
        go true e = sym (le-leb 0 C zero-le)
        go false e =
            let t = tile_behind (tile_for g reg q i) (report_below g (sizes S).side_pos q (rectangle g reg i) (good S i v), eqb-false _ _ e) in
            leb_same _ _ _ _ t.1 t.0

    not_given : (i : ℕ) → i < count reg → (not (any (eqb i) given)) ≡ ltb C (K (Footprint i))
    not_given i v = ap not (given_is i v) ∙ by_le (K (Footprint i)) C (λ h. rw (le-leb _ _ h, le-ltb C (K (Footprint i)) h)) (λ h. rw (lt-leb _ _ h, lt-ltb _ _ h))

    footprint_waits_law : (i : ℕ) → i < count reg → footprint_waits g reg q D given i ≡ (ltb C (K (Footprint i)) && leb (parent_key g reg q (Footprint i)) C)
    unfolding footprint_waits
    footprint_waits_law i v = ap₂ ◌&&◌ (not_given i v) (brought_by i v)

    pub footprint_named : (i : ℕ) → i < count reg → footprint_waits g reg q D given i ≡ true → Waits (Footprint i)
    footprint_named i v e =
        let f = sym (footprint_waits_law i v) ∙ e in
        (v, ltb-true _ _ (fst_true (ltb C (K (Footprint i))) _ f), snd_true (ltb C (K (Footprint i))) (leb (parent_key g reg q (Footprint i)) C) f)

    pub all_footprints_named : (i : ℕ) → Waits (Footprint i) → footprint_waits g reg q D given i ≡ true
    all_footprints_named i w = footprint_waits_law i w.0 ∙ both_true (lt-ltb _ _ w.1) w.2
