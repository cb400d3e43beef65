-- Bytes put one behind the other, and what stands in an output that has room. Assumes nothing.
use mathlib.Core.Path.{◌≡◌, refl, sym, ap, ◌∙◌}
use mathlib.Core.List.{List, [], ◌∷◌, ◌++◌}
use Prim.Native.Nat.{ℕ, suc, ◌+◌, ◌≤◌, ◌<◌}
use native.Mathlib.Numerals.{add-one}
use native.Mathlib.Omega.{arith}
use lib.ListN.{length, set, length-set}
use lib.Seq.{sets}
use borrow.Author.Tests.{lt-ltb, le-ltb, ltb-true}
use lib.Dec.{ltb}
use Rattle.laws.proofs.Tests.{by_bool}
use Rattle.sheet.specs.Put.{Output, put, puts}

pub no_room : (b at : ℕ) (out : List ℕ) → length out ≤ at → ◌≡◌ {A = Output} (at, out) (put b (at, out))
unfolding put
no_room b at out h = rw (le-ltb at (length out) h)

pub put_one : (b at : ℕ) (out : List ℕ) → at < length out → ◌≡◌ {A = Output} (at + 1, set out at b) (put b (at, out))
unfolding put
put_one b at out h = rw (lt-ltb at (length out) h)

pub puts_append : (l m : List ℕ) (o : Output) → puts (l ++ m) o ≡ puts m (puts l o)
unfolding puts
puts_append [] m o = refl
puts_append (b ∷ l) m o = puts_append l m (put b o)

-- what two steps put, one behind the other
pub put_both : (l m : List ℕ) (o p q : Output) → p ≡ puts l o → q ≡ puts m p → q ≡ puts (l ++ m) o
put_both l m o p q e f = f ∙ ap (puts m) e ∙ sym (puts_append l m o)

pub puts_one : (b : ℕ) (o : Output) → puts (b ∷ []) o ≡ put b o
unfolding puts
puts_one b o = refl

-- ---- an output that has room

pub puts_room : (l : List ℕ) (at : ℕ) (out : List ℕ) → at + length l ≤ length out → puts l (at, out) ≡ (at + length l, sets out at l)
unfolding puts put
puts_room [] at out h =
    let z : at + 0 ≡ at = omega arith in
    rw z
puts_room (b ∷ l) at out h =
    let e : at + 1 + length l ≡ at + suc (length l) = omega arith in
    let z : at + 1 + length l ≤ length (set out at b) = rw length-set (omega arith) in
    let s : ◌≡◌ {A = Output} (at + 1 + length l, sets (set out at b) (at + 1) l) (at + suc (length l), sets (set out at b) (suc at) l) = rw (e, add-one) in
    sym (ap (puts l) (put_one b at out (omega arith))) ∙ puts_room l (at + 1) (set out at b) z ∙ s

-- ---- a place within the output

put_within : (b : ℕ) (o : Output) → o.0 ≤ length o.1 → (put b o).0 ≤ length (put b o).1
unfolding put
put_within b o h =
    by_bool (ltb o.0 (length o.1))
    (λ t. let k = ltb-true o.0 (length o.1) t in rw (t, length-set) (omega arith))
    (λ t. rw t h)

-- what is put stays within it
pub puts_within : (l : List ℕ) (o : Output) → o.0 ≤ length o.1 → (puts l o).0 ≤ length (puts l o).1
unfolding puts
puts_within [] o h = h
puts_within (b ∷ l) o h = puts_within l (put b o) (put_within b o h)
