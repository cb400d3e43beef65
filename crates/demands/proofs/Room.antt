-- What waits never needs more room than a start asks for: each footprint, each tile, and one group of each direction. Assumes nothing.
use mathlib.Core.Path.{◌≡◌, sym, ap, ap₂, ◌∙◌, subst}
use mathlib.Core.List.{List, Memᴰ}
use Prim.Native.Nat.{ℕ, zero, suc, ◌+◌, ◌≤◌, ◌<◌}
use native.Mathlib.Nat.{le_trans, le_of_lt, le_of_eq, lt_irrefl}
use native.Mathlib.Numerals.{add-one}
use native.Mathlib.Omega.{arith}
use lib.Dec.{leb}
use lib.ListN.{length}
use borrow.Author.Tests.{leb-true}
use Rattle.laws.proofs.Tests.{by_le}
use Rattle.laws.proofs.Members.{mem_filter}
use Rattle.laws.proofs.Counting.{pigeons}
use Rattle.laws.proofs.Ordered.{above_mem, above_filter}
use Rattle.laws.proofs.Gather.{apart_inj}
use Rattle.rules.specs.Sizes.{tile_count}
use Rattle.rules.specs.Register.{count}
use Rattle.rules.specs.Front.{direction_no, direction, encoded}
use Rattle.rules.specs.Walk.{waiting_row}
use Rattle.rules.specs.declared.Grid.{Grid}
use Rattle.rules.specs.declared.Point.{Point}
use Rattle.rules.specs.declared.Direction.{Direction}
use Rattle.rules.specs.declared.Item.{Item}
use Rattle.rules.specs.declared.Item.TheVariants.{Group, Tile, Footprint}
use Rattle.rules.proofs.Encoding.{direction_back, direction_no_below}
use Rattle.rules.proofs.Items.{group_before_next}
use Rattle.rules.proofs.Rings.{next_farther}
use Rattle.demands.proofs.Around.{Around, key, Valid, sizes}
use Rattle.demands.proofs.Everything.{parent_key, waits, RestOf}

module _ (g : Grid) (reg : List ℕ) (q : Point) where
  -- its parent is taken, and it is not
  abbrev pub Waiting : ℕ → Item → Type 0
  Waiting c z = Valid g reg q z × (parent_key g reg q z ≤ c) × (c < key g reg q z)

  -- a slot for each item that can wait
  abbrev slot : Item → ℕ
  slot (Group d l) = count reg + tile_count g + direction_no d
  slot (Tile t) = count reg + t
  slot (Footprint i) = i

module _ {g : Grid} {reg : List ℕ} {q : Point} (S : Around g reg q) where
  abbrev K : Item → ℕ
  K z = key g reg q z

  slot_lt : (z : Item) → Valid g reg q z → slot g reg q z < count reg + tile_count g + 4
  slot_lt (Group d l) v = omega (arith, direction_no_below d)
  slot_lt (Tile t) v = omega (arith, v.0)
  slot_lt (Footprint i) v = omega arith

  -- places rise along a direction
  pub groups_rise : (d : Direction) (k l : ℕ) → k ≤ l → K (Group d k) ≤ K (Group d l)
  unfolding waiting_row encoded
  groups_rise d k zero h = le_of_eq (ap (λ (n : ℕ). K (Group d n)) (omega arith))
  groups_rise d k (suc l) h =
      by_le k l
      (λ u. le_trans (groups_rise d k l u) (le_of_lt (rw (← add-one l) (group_before_next (next_farther g (sizes S).side_pos reg q d l) d l))))
      (λ u. le_of_eq (ap (λ (n : ℕ). K (Group d n)) (omega arith)))

  -- of two groups of a direction, one waits
  one_level : (c : ℕ) (d : Direction) (k l : ℕ) → 0 < k → c < K (Group d k) → parent_key g reg q (Group d l) ≤ c → k < l → ⊥
  one_level c d k zero w u v h = lt_irrefl 0 (omega arith)
  one_level c d k (suc zero) w u v h = lt_irrefl 0 (omega arith)
  one_level c d k (suc (suc l)) w u v h = lt_irrefl c (le_trans u (le_trans (groups_rise d k (suc l) (omega arith)) v))

  pub waiting : (c : ℕ) (l : List Item) → RestOf g reg q c l → (z : Item) → Memᴰ z (waits g reg q c l) → Waiting g reg q c z
  waiting c l R z m =
      let f = mem_filter (λ z. leb (parent_key g reg q z) c) l m in
      (R.sound z f.0, leb-true _ _ f.1, above_mem K l R.up f.0)

  one_slot : (c : ℕ) (a b : Item) → Waiting g reg q c a → Waiting g reg q c b → slot g reg q a ≡ slot g reg q b → a ≡ b
  one_slot c (Group d k) (Group d' l) u v e =
      let f : direction_no d ≡ direction_no d' = omega arith in
      same d' l v (sym (direction_back d) ∙ ap direction f ∙ direction_back d')
    where
      same : (d' : Direction) (l : ℕ) → Waiting g reg q c (Group d' l) → d ≡ d' → Group d k ≡ Group d' l
      same d' l v f =
          let v' : Waiting g reg q c (Group d l) = subst (λ (e : Direction). Waiting g reg q c (Group e l)) (sym f) v in
          by_le k l
          (λ h. by_le l k (λ h'. ap₂ Group f (omega arith)) (λ h'. absurd (one_level c d k l u.0.0 u.2 v'.1 h')))
          (λ h. absurd (one_level c d l k v'.0.0 v'.2 u.1 h))
  one_slot c (Tile t) (Tile t') u v e = ap Tile (omega arith)
  one_slot c (Footprint i) (Footprint j) u v e = ap Footprint e
  one_slot c (Group d k) (Tile t) u v e = absurd (omega (arith, v.0.0))
  one_slot c (Group d k) (Footprint i) u v e = absurd (omega (arith, v.0))
  one_slot c (Tile t) (Group d k) u v e = absurd (omega (arith, u.0.0))
  one_slot c (Tile t) (Footprint i) u v e = absurd (omega (arith, v.0))
  one_slot c (Footprint i) (Group d k) u v e = absurd (omega (arith, u.0))
  one_slot c (Footprint i) (Tile t) u v e = absurd (omega (arith, u.0))

  -- what waits finds room in a front that a start accepted
  pub roomy : (c : ℕ) (l : List Item) → RestOf g reg q c l → length (waits g reg q c l) ≤ count reg + tile_count g + 4
  roomy c l R =
      pigeons (slot g reg q) (count reg + tile_count g + 4) (waits g reg q c l)
      (apart_inj K (slot g reg q) c (waits g reg q c l) (above_filter K (λ z. leb (parent_key g reg q z) c) c l R.up)
      (λ a b p r. one_slot c a b (waiting c l R a p) (waiting c l R b r)))
      (λ z m. slot_lt z (waiting c l R z m).0)
