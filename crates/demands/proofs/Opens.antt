-- The groups, tiles and footprints around a point are a forest: an item lies later in the order than what brings it, and each is
-- brought by one. Assumes nothing.
use mathlib.Core.Path.{◌≡◌, refl, sym, ap}
use mathlib.Core.Logic.{◌⊎◌, inl, inr}
use mathlib.Core.Bool.{Bool, true, false, cond}
use mathlib.Core.Option.{Option, none, some}
use mathlib.Core.List.{List, [], ◌∷◌, map, Memᴰ}
use Prim.Native.Nat.{ℕ, zero, suc, ◌+◌, ◌-◌, ◌≤◌, ◌<◌, zero-le, suc-le-suc}
use native.Mathlib.Nat.{lt_irrefl, le_of_eq, mod-lt, div-lt_iff_lt-mul}
use native.Mathlib.Numerals.{add-one}
use native.Mathlib.Omega.{arith}
use lib.Dec.{eqb}
use borrow.Author.Tests.{eqb-false, ne_eqb}
use Rattle.laws.specs.Lists.{up_to}
use Rattle.laws.proofs.Members.{mem_filter, filter_mem}
use Rattle.laws.proofs.Ranges.{mem_from, from_mem}
use Rattle.laws.proofs.Apart.{Apart, apart_append, apart_filter, apart_map}
use Rattle.laws.proofs.Forest.{Forest}
use Rattle.rules.specs.Sizes.{column, row_of, column_of, tile_count, tiles, tile_of}
use Rattle.rules.specs.Register.{rectangle}
use Rattle.rules.specs.Front.{encoded}
use Rattle.rules.specs.Walk.{group_exists, tile_in_group, group_tiles, group_if, group_brings, waiting_row}
use Rattle.rules.specs.declared.Grid.{Grid}
use Rattle.rules.specs.declared.Point.{Point}
use Rattle.rules.specs.declared.Direction.{Direction}
use Rattle.rules.specs.declared.Item.{Item}
use Rattle.rules.specs.declared.Item.TheVariants.{Group, Tile, Footprint}
use Rattle.rules.proofs.Report.{own_column, own_row, report_below}
use Rattle.rules.proofs.Items.{group_before_next, group_before_tile, tile_before_footprint}
use Rattle.rules.proofs.Ring.{ring_there, ring_back, exists_less, exists_in, not_centre}
use Rattle.rules.proofs.Rings.{tile_farther, next_farther, footprint_farther}
use Rattle.demands.proofs.Around.{Around, key, Valid, direction_in, level_in, group_of, tile_for, parent, brings, sizes, good, column_lt, off_centre, in_range, one_key, same_tile}
use Rattle.demands.proofs.Reported.{of_tile, reported_in, apart_footprints}

module _ {g : Grid} {reg : List ℕ} {q : Point} (S : Around g reg q) where
  abbrev K : Item → ℕ
  K z = key g reg q z

  abbrev There : Item → Type 0
  There z = Valid g reg q z

  abbrev P : Item → Option Item
  P z = parent g reg q z

  -- a tile other than the point's is in its group
  pub in_own_group : (t : ℕ) → There (Tile t) → There (group_of g reg q t) × (tile_in_group g q (direction_in g reg q t) (level_in g reg q t) t ≡ true)
  unfolding group_exists tile_in_group tile_count column_of row_of
  in_own_group t v =
      let b = ring_back (column g q.x) (column g q.y) (column_of g t) (row_of g t) (off_centre S t v.1) in (
        (
          b.rises,
          exists_in g.n (column g q.x) (column g q.y) _ _ (column_of g t) (row_of g t) (mod-lt t (sizes S).n_pos)
              ((div-lt_iff_lt-mul (sizes S).n_pos).1 v.0) b.inside,
        ),
        b.inside,
      )

  -- and in no other
  pub one_group : (d : Direction) (l t : ℕ) → 0 < l → tile_in_group g q d l t ≡ true → group_of g reg q t ≡ Group d l
  unfolding tile_in_group
  one_group d l t h e =
      let b = ring_there (column g q.x) (column g q.y) d l (column_of g t) (row_of g t) h e in
      rw (b.0, b.1)

  -- the point's own is in none
  pub not_own : (d : Direction) (l t : ℕ) → 0 < l → tile_in_group g q d l t ≡ true → t ≡ tile_of g q → ⊥
  unfolding tile_in_group
  not_own d l t h e f = not_centre (column g q.x) (column g q.y) d l (column_of g t) (row_of g t) h e (own_column g (sizes S).side_pos q (column_lt S) t f) (own_row g (sizes S).side_pos q (column_lt S) t f)

  -- ---- an item lies later than what brings it

  abbrev Later : Item → Option Item → Type 0
  Later z none = Unit {0}
  Later z (some y) = There y × (K y < K z)

  pub later : (z : Item) → There z → Later z (P z)
  unfolding waiting_row encoded
  later (Group d zero) v = tt
  later (Group d (suc zero)) v = tt
  later (Group d (suc (suc l))) v = (
    (suc-le-suc zero-le, unfold group_exists in exists_less g.n (column g q.x) (column g q.y) d (suc l) v.1),
    rw (← add-one (suc l)) (group_before_next (next_farther g (sizes S).side_pos reg q d (suc l)) d (suc l)),
  )
  later (Tile t) v =
      let b = in_own_group t v in
      (b.0, group_before_tile (tile_farther g (sizes S).side_pos reg q (direction_in g reg q t) (level_in g reg q t) t b.1) (direction_in g reg q t) (level_in g reg q t) t (in_range S (group_of g reg q t) b.0))
  later (Footprint i) v = go (eqb (tile_for g reg q i) (tile_of g q)) refl
    where
      go : (b : Bool) → eqb (tile_for g reg q i) (tile_of g q) ≡ b → Later (Footprint i) (cond b none (some (Tile (tile_for g reg q i))))
      go true e = tt
      go false e =
          let vt : There (Tile (tile_for g reg q i)) = (report_below g (sizes S).side_pos q (rectangle g reg i) (good S i v), eqb-false _ _ e) in
          (vt, tile_before_footprint (footprint_farther g (sizes S).side_pos reg q i (good S i v)) (tile_for g reg q i) i (in_range S (Tile (tile_for g reg q i)) vt))

  pub above_parent : (z y : Item) → There z → P z ≡ some y → There y × (K y < K z)
  above_parent z y v e = rw e at (later z v)

  -- ---- what is brought is there, and has that parent

  pub next_group : (d : Direction) (l : ℕ) {z : Item} → Memᴰ z (group_if g q l d) → (z ≡ Group d l) × (group_exists g q d l ≡ true)
  unfolding group_if
  next_group d l {z} m = go (group_exists g q d l) refl m
    where
      go : (b : Bool) → group_exists g q d l ≡ b → Memᴰ z (cond b (Group d l ∷ []) []) → (z ≡ Group d l) × (group_exists g q d l ≡ true)
      go true e n = (mathlib.Core.List.Memᴰ.eq_of_singleton n, e)
      go false e n = absurd (mathlib.Core.List.Memᴰ.not-nil n)

  pub group_there : (d : Direction) (l : ℕ) → group_exists g q d l ≡ true → Memᴰ (Group d l) (group_if g q l d)
  unfolding group_if
  group_there d l e = rw e (mathlib.Core.List.Memᴰ.head refl)

  from_group : (d : Direction) (l : ℕ) (z : Item) → There (Group d l) → Memᴰ z (group_brings g q d l) → There z × (P z ≡ some (Group d l))
  unfolding group_brings
  from_group d l z v m = go (mathlib.Core.List.Memᴰ.append_cases (map Tile (group_tiles g q d l)) m)
    where
      of_tile_in : (t : ℕ) → Memᴰ t (group_tiles g q d l) → There (Tile t) × (P (Tile t) ≡ some (Group d l))
      of_tile_in t n =
          let f : Memᴰ t (up_to (tile_count g)) × (tile_in_group g q d l t ≡ true) =
          unfold group_tiles tiles in mem_filter (tile_in_group g q d l) (up_to (tile_count g)) n in
          let k : (0 ≤ t) × (t < 0 + tile_count g) = mem_from 0 (tile_count g) f.0 in (
            (omega arith, not_own d l t v.0 f.1),
            ap some (one_group d l t v.0 f.1),
          )

      of_next : (z ≡ Group d (l + 1)) × (group_exists g q d (l + 1) ≡ true) → (k : ℕ) → l ≡ suc k → There z × (P z ≡ some (Group d l))
      of_next n k f = rw n.0 ((omega arith, n.1), rw (f, add-one (suc k)))

      go : Memᴰ z (map Tile (group_tiles g q d l)) ⊎ Memᴰ z (group_if g q (l + 1) d) → There z × (P z ≡ some (Group d l))
      go (inl n) = let o = mathlib.Core.List.Memᴰ.of_map Tile (group_tiles g q d l) n in rw (sym o.2) (of_tile_in o.0 o.1)
      go (inr n) = of_next (next_group d (l + 1) n) (l - 1) (omega (arith, v.0))

  from_tile : (t : ℕ) (z : Item) → There (Tile t) → Memᴰ z (brings g reg q (Tile t)) → There z × (P z ≡ some (Tile t))
  from_tile t z v m =
      let o = of_tile S t m in
      rw (sym o.3) ((o.1, rw (o.2, ne_eqb t (tile_of g q) v.1)))

  pub brought : (x z : Item) → There x → Memᴰ z (brings g reg q x) → There z × (P z ≡ some x)
  brought (Group d l) z v m = from_group d l z v m
  brought (Tile t) z v m = from_tile t z v m
  brought (Footprint i) z v m = absurd (mathlib.Core.List.Memᴰ.not-nil m)

  -- ---- and all of those are brought

  abbrev InBrings : Item → Option Item → Type 0
  InBrings z none = Unit {0}
  InBrings z (some x) = Memᴰ z (brings g reg q x)

  in_brings : (z : Item) → There z → InBrings z (P z)
  unfolding group_brings group_tiles tiles
  in_brings (Group d zero) v = tt
  in_brings (Group d (suc zero)) v = tt
  in_brings (Group d (suc (suc l))) v = mathlib.Core.List.Memᴰ.append_right (map Tile (group_tiles g q d (suc l))) (rw (add-one (suc l)) (group_there d (suc (suc l)) v.1))
  in_brings (Tile t) v =
      mathlib.Core.List.Memᴰ.append_left _ (mathlib.Core.List.Memᴰ.map Tile (filter_mem (tile_in_group g q _ _) (up_to (tile_count g)) (from_mem 0 (tile_count g) t zero-le (omega (arith, v.0))) (in_own_group t v).1))
  in_brings (Footprint i) v = go (eqb (tile_for g reg q i) (tile_of g q))
    where
      go : (b : Bool) → InBrings (Footprint i) (cond b none (some (Tile (tile_for g reg q i))))
      go true = tt
      go false = reported_in S i v

  brings_all : (x z : Item) → There z → P z ≡ some x → Memᴰ z (brings g reg q x)
  brings_all x z v e = rw e at (in_brings z v)

  -- ---- no two of them are one

  pub apart_next : (d : Direction) (l : ℕ) → Apart K (group_if g q l d)
  unfolding group_if
  apart_next d l = go (group_exists g q d l)
    where
      go : (b : Bool) → Apart K (cond b (Group d l ∷ []) [])
      go true = (refl, tt)
      go false = tt

  apart_group : (d : Direction) (l : ℕ) → There (Group d l) → Apart K (group_brings g q d l)
  unfolding group_brings
  apart_group d l v =
      apart_append K (map Tile (group_tiles g q d l)) (group_if g q (l + 1) d)
      (apart_map K Tile (group_tiles g q d l) (unfold group_tiles tiles in apart_filter (tile_in_group g q d l) 0 (tile_count g))
      (λ a b ma mb e. same_tile a b (one_key S (Tile a) (Tile b) (valid a ma) (valid b mb) e)))
      (apart_next d (l + 1))
      (λ y z p r e. clash (mathlib.Core.List.Memᴰ.of_map Tile (group_tiles g q d l) p) (next_group d (l + 1) r).0
      (one_key S y z (from_group d l y v (mathlib.Core.List.Memᴰ.append_left (group_if g q (l + 1) d) p)).0 (from_group d l z v (mathlib.Core.List.Memᴰ.append_right (map Tile (group_tiles g q d l)) r)).0 e))
    where
      valid : (a : ℕ) → Memᴰ a (group_tiles g q d l) → There (Tile a)
      valid a m = (from_group d l (Tile a) v (mathlib.Core.List.Memᴰ.append_left (group_if g q (l + 1) d) (mathlib.Core.List.Memᴰ.map Tile m))).0

      clash : {y z : Item} → (t : ℕ) × Memᴰ t (group_tiles g q d l) × (Tile t ≡ y) → z ≡ Group d (l + 1) → y ≡ z → ⊥
      clash {y} {z} o e f =
          let h : Tile o.0 ≡ y = o.2 in
          let u : ◌≡◌ {A = ℕ} 0 1 = cc in lt_irrefl 0 (le_of_eq (sym u))

  distinct : (x : Item) → There x → Apart K (brings g reg q x)
  distinct (Group d l) v = apart_group d l v
  distinct (Tile t) v = apart_footprints S t
  distinct (Footprint i) v = tt

  pub forest : Forest K (Valid g reg q) (parent g reg q) (brings g reg q)
  forest = record { one_key = one_key S; above_parent = above_parent; brought = brought; brings_all = brings_all; distinct = distinct }
