-- The rings around the point's tile: every other tile is in exactly one group. Assumes nothing.
use mathlib.Core.Path.{◌≡◌}
use mathlib.Core.Bool.{true, cond}
use Prim.Native.Nat.{ℕ, suc, ◌+◌, ◌-◌, ◌≤◌, ◌<◌}
use native.Mathlib.Omega.{arith}
use lib.Dec.{leb, ltb, eqb}
use borrow.Author.Tests.{eqb-true, leb-true, ltb-true, le-leb, lt-leb, lt-ltb, le-ltb, eq-eqb}
use Rattle.laws.proofs.Tests.{by_le, all_three}
use Rattle.rules.specs.declared.Direction.{Direction}
use Rattle.rules.specs.declared.Direction.TheVariants.{Up, Right, Down, Left}
use Rattle.rules.specs.Walk.{exists, in_group}

-- the direction of the group that tile column x, row y is in, and its level
unfoldable pub dir_of : ℕ → ℕ → ℕ → ℕ → Direction
dir_of c r x y =
    cond (ltb (x + r) (c + y)) (cond (leb (c + r) (x + y)) Up Left)
    (cond (ltb (c + r) (x + y)) Right (cond (ltb (c + y) (x + r)) Down Left))

abbrev pub lev_in : Direction → ℕ → ℕ → ℕ → ℕ → ℕ
lev_in Up c r x y = y - r
lev_in Right c r x y = x - c
lev_in Down c r x y = r - y
lev_in Left c r x y = c - x

pub ring_there : (c r : ℕ) (d : Direction) (l x y : ℕ) → 0 < l → in_group c r d l x y ≡ true
    → (dir_of c r x y ≡ d) × (lev_in d c r x y ≡ l)
unfolding in_group dir_of
ring_there c r Up l x y h t =
    let b : (eqb y (r + l) ≡ true) × (leb c (x + l) ≡ true) × (ltb x (c + l) ≡ true) = all_three _ _ _ t in
    let e : y ≡ r + l = eqb-true _ _ b.0 in
    let f : c ≤ x + l = leb-true _ _ b.1 in
    let k : x < c + l = ltb-true _ _ b.2 in
    (rw (lt-ltb (x + r) (c + y) (omega arith), le-leb (c + r) (x + y) (omega arith)), omega arith)
ring_there c r Right l x y h t =
    let b : (eqb x (c + l) ≡ true) × (ltb r (y + l) ≡ true) × (leb y (r + l) ≡ true) = all_three _ _ _ t in
    let e : x ≡ c + l = eqb-true _ _ b.0 in
    let f : r < y + l = ltb-true _ _ b.1 in
    let k : y ≤ r + l = leb-true _ _ b.2 in
    (rw (le-ltb (x + r) (c + y) (omega arith), lt-ltb (c + r) (x + y) (omega arith)), omega arith)
ring_there c r Down l x y h t =
    let b : (eqb (y + l) r ≡ true) × (ltb c (x + l) ≡ true) × (leb x (c + l) ≡ true) = all_three _ _ _ t in
    let e : y + l ≡ r = eqb-true _ _ b.0 in
    let f : c < x + l = ltb-true _ _ b.1 in
    let k : x ≤ c + l = leb-true _ _ b.2 in
    (rw (le-ltb (x + r) (c + y) (omega arith), le-ltb (c + r) (x + y) (omega arith), lt-ltb (c + y) (x + r) (omega arith)), omega arith)
ring_there c r Left l x y h t =
    let b : (eqb (x + l) c ≡ true) × (leb r (y + l) ≡ true) × (ltb y (r + l) ≡ true) = all_three _ _ _ t in
    let e : x + l ≡ c = eqb-true _ _ b.0 in
    let f : r ≤ y + l = leb-true _ _ b.1 in
    let k : y < r + l = ltb-true _ _ b.2 in
    by_le (c + y) (x + r)
    (λ u. (rw (le-ltb (x + r) (c + y) u, le-ltb (c + r) (x + y) (omega arith), le-ltb (c + y) (x + r) (omega arith)), omega arith))
    (λ u. (rw (lt-ltb (x + r) (c + y) u, lt-leb (c + r) (x + y) (omega arith)), omega arith))

-- a tile other than the point's is in its group
pub record InRing (c r x y : ℕ) (d : Direction) : Type 0 where
  pub rises : 0 < lev_in d c r x y
  pub inside : in_group c r d (lev_in d c r x y) x y ≡ true

pub ring_back : (c r x y : ℕ) → (x ≡ c → y ≡ r → ⊥) → InRing c r x y (dir_of c r x y)
unfolding in_group dir_of
ring_back c r x y h =
    by_le (c + y) (x + r)
    (λ u. by_le (x + y) (c + r)
    (λ v. by_le (x + r) (c + y)
    (λ w. in_left (rw (le-ltb (x + r) (c + y) u, le-ltb (c + r) (x + y) v, le-ltb (c + y) (x + r) w)) (strict u w v) (omega arith))
    (λ w. in_down (rw (le-ltb (x + r) (c + y) u, le-ltb (c + r) (x + y) v, lt-ltb (c + y) (x + r) w)) w v))
    (λ v. in_right (rw (le-ltb (x + r) (c + y) u, lt-ltb (c + r) (x + y) v)) u v))
    (λ u. by_le (c + r) (x + y)
    (λ v. in_up (rw (lt-ltb (x + r) (c + y) u, le-leb (c + r) (x + y) v)) u v)
    (λ v. in_left (rw (lt-ltb (x + r) (c + y) u, lt-leb (c + r) (x + y) v)) v (omega arith)))
  where
    -- on one diagonal and not the point's tile: off the other
    strict : c + y ≤ x + r → x + r ≤ c + y → x + y ≤ c + r → x + y < c + r
    strict u w v = by_le (c + r) (x + y) (λ k. absurd (h (omega arith) (omega arith))) (λ k. k)

    in_up : dir_of c r x y ≡ Up → x + r < c + y → c + r ≤ x + y → InRing c r x y (dir_of c r x y)
    in_up e u v = rw e (record {
      rises = omega arith;
      inside = rw (eq-eqb y (r + (y - r)) (omega arith), le-leb c (x + (y - r)) (omega arith), lt-ltb x (c + (y - r)) (omega arith));
    })

    in_right : dir_of c r x y ≡ Right → c + y ≤ x + r → c + r < x + y → InRing c r x y (dir_of c r x y)
    in_right e u v = rw e (record {
      rises = omega arith;
      inside = rw (eq-eqb x (c + (x - c)) (omega arith), lt-ltb r (y + (x - c)) (omega arith), le-leb y (r + (x - c)) (omega arith));
    })

    in_down : dir_of c r x y ≡ Down → c + y < x + r → x + y ≤ c + r → InRing c r x y (dir_of c r x y)
    in_down e u v = rw e (record {
      rises = omega arith;
      inside = rw (eq-eqb (y + (r - y)) r (omega arith), lt-ltb c (x + (r - y)) (omega arith), le-leb x (c + (r - y)) (omega arith));
    })

    in_left : dir_of c r x y ≡ Left → x + y < c + r → x + r ≤ c + y → InRing c r x y (dir_of c r x y)
    in_left e u v = rw e (record {
      rises = omega arith;
      inside = rw (eq-eqb (x + (c - x)) c (omega arith), le-leb r (y + (c - x)) (omega arith), lt-ltb y (r + (c - x)) (omega arith));
    })

-- ---- which groups exist

-- a group's level is below n
pub exists_lt : (n c r : ℕ) → c < n → r < n → (d : Direction) (l : ℕ) → exists n c r d l ≡ true → l < n
unfolding exists
exists_lt n c r hc hr Up l e = let h : r + l < n = ltb-true _ _ e in omega arith
exists_lt n c r hc hr Right l e = let h : c + l < n = ltb-true _ _ e in omega arith
exists_lt n c r hc hr Down l e = let h : l ≤ r = leb-true _ _ e in omega arith
exists_lt n c r hc hr Left l e = let h : l ≤ c = leb-true _ _ e in omega arith

-- the group before exists too
pub exists_less : (n c r : ℕ) (d : Direction) (l : ℕ) → exists n c r d (suc l) ≡ true → exists n c r d l ≡ true
unfolding exists
exists_less n c r Up l e = let h : r + suc l < n = ltb-true _ _ e in lt-ltb (r + l) n (omega arith)
exists_less n c r Right l e = let h : c + suc l < n = ltb-true _ _ e in lt-ltb (c + l) n (omega arith)
exists_less n c r Down l e = let h : suc l ≤ r = leb-true _ _ e in le-leb l r (omega arith)
exists_less n c r Left l e = let h : suc l ≤ c = leb-true _ _ e in le-leb l c (omega arith)

-- the group of a tile on the grid exists
pub exists_in : (n c r : ℕ) (d : Direction) (l x y : ℕ) → x < n → y < n → in_group c r d l x y ≡ true → exists n c r d l ≡ true
unfolding exists in_group
exists_in n c r Up l x y hx hy t = let e : y ≡ r + l = eqb-true _ _ (all_three (eqb y (r + l)) _ _ t).0 in lt-ltb (r + l) n (omega arith)
exists_in n c r Right l x y hx hy t = let e : x ≡ c + l = eqb-true _ _ (all_three (eqb x (c + l)) _ _ t).0 in lt-ltb (c + l) n (omega arith)
exists_in n c r Down l x y hx hy t = let e : y + l ≡ r = eqb-true _ _ (all_three (eqb (y + l) r) _ _ t).0 in le-leb l r (omega arith)
exists_in n c r Left l x y hx hy t = let e : x + l ≡ c = eqb-true _ _ (all_three (eqb (x + l) c) _ _ t).0 in le-leb l c (omega arith)

-- the point's own tile is in no group
pub not_centre : (c r : ℕ) (d : Direction) (l x y : ℕ) → 0 < l → in_group c r d l x y ≡ true → x ≡ c → y ≡ r → ⊥
unfolding in_group
not_centre c r Up l x y h t a b = let e : y ≡ r + l = eqb-true _ _ (all_three (eqb y (r + l)) _ _ t).0 in omega arith
not_centre c r Right l x y h t a b = let e : x ≡ c + l = eqb-true _ _ (all_three (eqb x (c + l)) _ _ t).0 in omega arith
not_centre c r Down l x y h t a b = let e : y + l ≡ r = eqb-true _ _ (all_three (eqb (y + l) r) _ _ t).0 in omega arith
not_centre c r Left l x y h t a b = let e : x + l ≡ c = eqb-true _ _ (all_three (eqb (x + l) c) _ _ t).0 in omega arith
