-- One row is off the front: it is opened, handed out or damaged in memory as the rules say. Assumes nothing.
use mathlib.Core.Path.{◌≡◌, refl, sym, ap, ap₂, ◌∙◌}
use mathlib.Core.Bool.{Bool, true, false}
use mathlib.Core.List.{List, [], ◌∷◌, ◌++◌, append_assoc}
use Prim.Native.Nat.{ℕ, zero, suc, ◌+◌, ◌-◌, ◌*◌, ◌<◌, ◌≤◌}
use native.Mathlib.Nat.{not-suc-le-zero, le_of_suc-le-suc}
use native.Mathlib.Omega.{arith}
use lib.ListN.{length, take, drop, length-append, length-drop}
use lib.Seq.{length-take-le, take_at, drop_at}
use borrow.Author.Tests.{le-leb, lt-leb}
use Rattle.laws.proofs.Tests.{by_le}
use Rattle.rules.specs.Register.{bad_entry}
use Rattle.rules.specs.Tables.{Tables}
use Rattle.rules.specs.Front.{rows, insert, insert_all}
use Rattle.rules.specs.Walk.{Move, bring, damage_if, row_numbers, row_writes, item_move, machine, after_move}
use Rattle.rules.specs.declared.Grid.{Grid}
use Rattle.rules.specs.declared.Point.{Point}
use Rattle.rules.specs.declared.Item.TheVariants.{Footprint}
use Rattle.rules.specs.declared.Three.{Three}
use Rattle.walk.specs.Fill.{fill, Got, lost, kept, add_all, brought, waits, stands, Held}
use Rattle.walk.specs.Taking.{state, standing, got_machine, Moves, Breaks}
use Rattle.walk.specs.declared.batch.Fill.{Fill}
use Rattle.walk.specs.declared.take.At.{At}
use Rattle.walk.proofs.Adding.{merged_none}
use Rattle.walk.proofs.Bringing.{add_all_lost}

-- ---- all rows of an opening, with room or without

pub add_all_fits : (r : ℕ) (l new : List Three) → length new ≤ r → add_all (kept r l) new ≡ kept (r - length new) (insert_all new l)
unfolding add_all
add_all_fits r l [] h = ap (λ (k : ℕ). kept k l) (omega arith)
add_all_fits zero l (t ∷ new) h = absurd (not-suc-le-zero h)
add_all_fits (suc r) l (t ∷ new) h =
    add_all_fits r (insert t l) new (le_of_suc-le-suc h) ∙ ap (λ (k : ℕ). kept k (insert_all new (insert t l))) (omega arith)

add_all_not : (r : ℕ) (l new : List Three) → r < length new → add_all (kept r l) new ≡ lost
unfolding add_all
add_all_not r l [] h = absurd (not-suc-le-zero h)
add_all_not zero l (t ∷ new) h = add_all_lost new
add_all_not (suc r) l (t ∷ new) h = add_all_not r (insert t l) new (le_of_suc-le-suc h)

after_brought : (whole room : ℕ) (w : List Three) (o : List ℕ) (j : ℕ) (b : Bool) (new : List Three) → length w + room ≡ whole
    → got_machine (brought (kept room w) b new) o (suc j) ≡ after_move whole (damage_if b (bring new)) j w o
after_brought whole room w o j true new e = refl
after_brought whole room w o j false new e =
    by_le (length new) room
    (λ h. rw (le-leb (length w + length new) whole (omega arith)) (ap (λ (g : Got). got_machine g o (suc j)) (add_all_fits room w new h)))
    (λ h. rw (lt-leb (length w + length new) whole (omega arith)) (ap (λ (g : Got). got_machine g o (suc j)) (add_all_not room w new h)))

-- ---- a group or a tile is opened

module _ (front batch : List ℕ) (s : At) (b : Bool) (new : List Three) (lt : s.head < length (rows front)) (m : Move) (em : damage_if b (bring new) ≡ m) where
  before_open : stands front batch (fill (s.head + 1) 0) ≡ kept (s.head + 1) (drop (s.head + 1) (rows front))
  unfolding stands waits
  before_open = ap₂ kept (omega arith) (merged_none (drop (s.head + 1) (rows front)))

  -- what it brings is what the rules say
  brought_is : (out : List ℕ) (j : ℕ) → s.given < j
      → got_machine (brought (stands front batch (fill (s.head + 1) 0)) b new) (take (row_numbers * s.given) out) (j - s.given)
      ≡ after_move (length (rows front)) m (j - s.given - 1) (drop (s.head + 1) (rows front)) (take (row_numbers * s.given) out)
  brought_is out j k =
      let d = length-drop (s.head + 1) (rows front) in
      let w = drop (s.head + 1) (rows front) in
      let o = take (row_numbers * s.given) out in
      let n : j - s.given ≡ suc (j - s.given - 1) = omega arith in
      ap₂ (λ (x : Got) (i : ℕ). got_machine (brought x b new) o i) before_open n
      ∙ after_brought (length (rows front)) (s.head + 1) w o (j - s.given - 1) b new (omega arith)
      ∙ ap (λ (x : Move). after_move (length (rows front)) x (j - s.given - 1) w o) em

  pub opened_lost : lost ≡ brought (stands front batch (fill (s.head + 1) 0)) b new → (out : List ℕ) → Breaks m front out out s
  opened_lost p out = record {
    same = refl;
    is = λ j k. ap (λ (x : Got). got_machine x (take (row_numbers * s.given) out) (j - s.given)) p ∙ brought_is out j k;
  }

  pub opened_moved : (front₁ batch₁ front₂ : List ℕ) (f : Fill) → Held front₁ batch₁ f (brought (stands front batch (fill (s.head + 1) 0)) b new) → (to : ℕ)
      → to ≤ length (rows front₂) → drop to (rows front₂) ≡ waits front₁ batch₁ f.head f.count → (out : List ℕ) → Moves m front out front₂ out s (state to s.given)
  unfolding standing stands
  opened_moved front₁ batch₁ front₂ f p to le w out = record {
    inside = le;
    more = (omega arith, omega arith);
    behind = refl;
    is = λ j k.
        ap (λ (l : List Three). machine l (take (row_numbers * s.given) out) (j - s.given) false) w
        ∙ ap (λ (x : Got). got_machine x (take (row_numbers * s.given) out) (j - s.given)) p.is
        ∙ brought_is out j k;
  }

-- ---- a footprint is handed out

writes_length : (g : Grid) (reg : List ℕ) (q : Point) (i square : ℕ) → length (row_writes g reg q i square) ≡ row_numbers
unfolding row_writes
writes_length g reg q i square = refl

module _ (g : Grid) (t : Tables) (q : Point) (square i : ℕ) (front out : List ℕ) (s : At) where
  pub hand_bad : bad_entry g t.reg i ≡ true → Breaks (item_move g t q square (Footprint i)) front out out s
  unfolding item_move
  hand_bad e = record { same = refl; is = λ j k. rw e refl }

  pub hand_fine : s.head < length (rows front) → bad_entry g t.reg i ≡ false → row_numbers * s.given + row_numbers ≤ length out → (out' : List ℕ)
      → out' ≡ take (row_numbers * s.given) out ++ (row_writes g t.reg q i square ++ drop (row_numbers * (s.given + 1)) out)
      → Moves (item_move g t q square (Footprint i)) front out front out' s (state (s.head + 1) (s.given + 1))
  unfolding item_move standing
  hand_fine lt e room out' w =
      let n = row_numbers * (s.given + 1) in
      let before = take (row_numbers * s.given) out in
      let writes = row_writes g t.reg q i square in
      let first = before ++ writes in
      let l : length first ≡ n =
      length-append before writes ∙ omega (arith, length-take-le (row_numbers * s.given) out (omega arith), writes_length g t.reg q i square) in
      let v : out' ≡ first ++ drop n out = w ∙ sym (append_assoc before writes (drop n out)) in
      let given : take n out' ≡ first = ap (take n) v ∙ take_at first (drop n out) n l in
      record {
        inside = omega arith;
        more = (omega arith, omega arith);
        behind = ap (drop n) v ∙ drop_at first (drop n out) n l;
        is = λ j k.
            let m : j - (s.given + 1) ≡ j - s.given - 1 = omega arith in
            rw e (ap₂ (λ (o : List ℕ) (x : ℕ). machine (drop (s.head + 1) (rows front)) o x false) given m);
      }
