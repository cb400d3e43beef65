-- A row taken in memory is a step of the machine, and rows taken until none is wanted are its end. Assumes nothing.
use Rattle.std.specs.Prelude.{Option, Some, None}
use mathlib.Core.Path.{◌≡◌, refl, sym, ap, ap₂, ◌∙◌}
use mathlib.Core.Bool.{true, false}
use mathlib.Core.List.{List, [], ◌∷◌}
use Prim.Native.Nat.{ℕ, zero, suc, ◌+◌, ◌-◌, ◌*◌, ◌<◌, ◌≤◌}
use native.Mathlib.Numerals.{add-one}
use native.Mathlib.Omega.{arith}
use lib.ListN.{length, take, drop, get_or, drop_of_length-le}
use lib.Seq.{drop-cons}
use Rattle.laws.proofs.Stores.{drop_more}
use Rattle.rules.specs.Tables.{Tables}
use Rattle.rules.specs.Front.{rows, decoded}
use Rattle.rules.specs.Merge.{none}
use Rattle.rules.specs.Walk.{Move, item_move, read_move, move, row_numbers, machine, spoiled, halts, halted, after_move, step, finish}
use Rattle.rules.specs.declared.Grid.{Grid}
use Rattle.rules.specs.declared.Point.{Point}
use Rattle.rules.specs.declared.Three.{Three}
use Rattle.rules.specs.declared.Row.{Row}
use Rattle.rules.proofs.Steps.{finish_step, finish_still}
use Rattle.walk.specs.Reading.{Placed}
use Rattle.walk.specs.Taking.{state, standing, Moved, Takes, Stops, Taken, Runs, Fails}
use Rattle.walk.specs.declared.take.At.{At}
use Rattle.walk.proofs.Adding.{same_rows}
use Rattle.walk.proofs.Weighing.{weighed, step_falls}

-- ---- what stands, opened up

module _ (front out : List ℕ) (j : ℕ) (s : At) where
  pub standing_fine : standing front out j s ≡ machine (drop s.head (rows front)) (take (row_numbers * s.given) out) (j - s.given) false
  unfolding standing
  standing_fine = refl

  module _ (lt : s.head < length (rows front)) (k : s.given < j) where
    standing_first : standing front out j s
        ≡ machine (get_or (rows front) s.head none ∷ drop (s.head + 1) (rows front)) (take (row_numbers * s.given) out) (suc (j - s.given - 1)) false
    standing_first =
        let n : j - s.given ≡ suc (j - s.given - 1) = omega arith in
        standing_fine
        ∙ ap₂ (λ (l : List Three) (n : ℕ). machine l (take (row_numbers * s.given) out) n false)
        (drop-cons (rows front) s.head none lt ∙ rw (add-one s.head) refl) n

    pub standing_goes : halted (standing front out j s) ≡ false
    standing_goes = ap halted standing_first

    standing_step : (mv : Three → Move) (whole : ℕ) → step mv whole (standing front out j s)
        ≡ after_move whole (mv (get_or (rows front) s.head none)) (j - s.given - 1) (drop (s.head + 1) (rows front)) (take (row_numbers * s.given) out)
    unfolding step
    standing_step mv whole = ap (step mv whole) standing_first

-- ---- one row

module _ (g : Grid) (t : Tables) (q : Point) (front out : List ℕ) (s : At) (lt : s.head < length (rows front))
    (a : Three) (read : Option Row) (ea : a ≡ get_or (rows front) s.head none) (er : read ≡ decoded a) where
  is_step : (x : Option Row) → read ≡ x → (j : ℕ) → s.given < j
      → after_move (length (rows front)) (read_move g t q x) (j - s.given - 1) (drop (s.head + 1) (rows front)) (take (row_numbers * s.given) out)
      ≡ step (move g t q) (length (rows front)) (standing front out j s)
  unfolding move
  is_step x e j k =
      let m : move g t q (get_or (rows front) s.head none) ≡ read_move g t q x =
      ap (λ (y : Three). read_move g t q (decoded y)) (sym ea) ∙ ap (read_move g t q) (sym er ∙ e) in
      ap (λ (m : Move). after_move (length (rows front)) m (j - s.given - 1) (drop (s.head + 1) (rows front)) (take (row_numbers * s.given) out)) (sym m)
      ∙ sym (standing_step front out j s lt k (move g t q) (length (rows front)))

  pub taken_known : (row : Row) → read ≡ Some row → (front' out' : List ℕ) (r : Option At)
      → Moved (item_move g t q row.square row.item) front out front' out' s r → Taken g t q front out front' out' s r
  taken_known row e front' out' None p = record { same = p.same; is = λ j k. p.is j k ∙ is_step (Some row) e j k }
  taken_known row e front' out' (Some r) p = record {
    inside = p.inside;
    more = p.more;
    behind = p.behind;
    is = λ j k. p.is j k ∙ is_step (Some row) e j k;
  }

  pub taken_unknown : read ≡ None → Stops g t q front out out s
  taken_unknown e = record { same = refl; is = is_step None e }

-- ---- whether a further row is taken

halts_none : (j : ℕ) (w : List Three) → j ≡ 0 → halts false j w ≡ true
halts_none j w e = rw e refl

halts_empty : (j : ℕ) → halts false j [] ≡ true
halts_empty zero = refl
halts_empty (suc j) = refl

-- none: enough are given, or none waits
pub rests_enough : (front out : List ℕ) (j : ℕ) (s : At) → j ≤ s.given → halted (standing front out j s) ≡ true
unfolding standing
rests_enough front out j s h = halts_none (j - s.given) (drop s.head (rows front)) (omega arith)

pub rests_empty : (front out : List ℕ) (j : ℕ) (s : At) → length (rows front) ≤ s.head → halted (standing front out j s) ≡ true
unfolding standing
rests_empty front out j s h = ap (halts false (j - s.given)) (drop_of_length-le (rows front) {i = s.head} h) ∙ halts_empty (j - s.given)

-- ---- the loop: what stands, worked on, is the whole

module _ (g : Grid) (t : Tables) (q : Point) (front₀ out₀ : List ℕ) (head j : ℕ) where
  pub record Running (front out : List ℕ) (s : At) : Type 0 where
    pub inside : s.head ≤ length (rows front)
    pub few : s.given ≤ j
    pub front_size : length front ≡ length front₀
    pub out_size : length out ≡ length out₀
    pub behind : drop (row_numbers * s.given) out ≡ drop (row_numbers * s.given) out₀
    pub is : finish g t q (length (rows front₀)) (standing front out j s) ≡ finish g t q (length (rows front₀)) (standing front₀ out₀ j (state head 0))

  pub run_all : head ≤ length (rows front₀) → Running front₀ out₀ (state head 0)
  run_all h = record { inside = h; few = omega arith; front_size = refl; out_size = refl; behind = refl; is = refl }

  module _ (front out : List ℕ) (s : At) (p : Running front out s) where
    module _ (few : s.given < j) (some : s.head < length (rows front)) where
      on : halted (standing front out j s) ≡ false
      on = standing_goes front out j s some few

      -- the step as it is taken, of a front as long as this one
      whole_is : step (move g t q) (length (rows front)) (standing front out j s) ≡ step (move g t q) (length (rows front₀)) (standing front out j s)
      whole_is = ap (λ (k : ℕ). step (move g t q) k (standing front out j s)) (same_rows front front₀ p.front_size)

      module _ (front' out' : List ℕ) (r : At) (lf : length front' ≡ length front) (lo : length out' ≡ length out) (n : Takes g t q front out front' out' s r) where
        stepped : standing front' out' j r ≡ step (move g t q) (length (rows front₀)) (standing front out j s)
        stepped = n.is j few ∙ whole_is

        pub run_step : Running front' out' r
        run_step =
            let m = n.more in
            record {
              inside = n.inside;
              few = omega arith;
              front_size = lf ∙ p.front_size;
              out_size = lo ∙ p.out_size;
              behind = n.behind ∙ drop_more out out₀ (row_numbers * s.given) (row_numbers * r.given) (omega arith) p.behind;
              is = ap (finish g t q (length (rows front₀))) stepped ∙ sym (finish_step g t q (length (rows front₀)) (standing front out j s) on) ∙ p.is;
            }

        pub run_falls : Placed g q → weighed g t (standing front' out' j r) < weighed g t (standing front out j s)
        run_falls ok = rw stepped (step_falls g t q ok (length (rows front₀)) (standing front out j s) on)

      pub run_fails : (out' : List ℕ) → Stops g t q front out out' s → Fails g t q front₀ out₀ out' head j
      run_fails out' n =
          let spoilt : spoiled ≡ step (move g t q) (length (rows front₀)) (standing front out j s) = n.is j few ∙ whole_is in
          record {
            behind = ap (drop (row_numbers * j)) n.same ∙ drop_more out out₀ (row_numbers * s.given) (row_numbers * j) (omega arith) p.behind;
            is =
                sym (finish_still g t q (length (rows front₀)) spoiled refl)
                ∙ ap (finish g t q (length (rows front₀))) spoilt ∙ sym (finish_step g t q (length (rows front₀)) (standing front out j s) on) ∙ p.is;
          }

    pub run_end_law : halted (standing front out j s) ≡ true → Runs g t q front₀ out₀ front out head j s
    run_end_law e = record {
      inside = p.inside;
      few = p.few;
      behind = p.behind;
      is = sym (finish_still g t q (length (rows front₀)) (standing front out j s) e) ∙ p.is;
    }
