-- Asks one after the other on built tables, once k rows were asked for: they leave what is promised, give the next footprints in order, and
-- meet no damage. Assumes nothing.
use mathlib.Core.Path.{◌≡◌, refl, sym, ap, ap₂, ◌∙◌}
use mathlib.Core.Bool.{false, ◌||◌}
use mathlib.Core.List.{List, [], ◌∷◌, ◌++◌, map, map-append, Memᴰ}
use Prim.Native.Nat.{ℕ, ◌+◌, ◌-◌, ◌*◌, ◌≤◌, ◌<◌, min}
use native.Mathlib.Omega.{arith}
use lib.Dec.{ltb}
use lib.ListN.{length, take, drop, length-map, length-take, length-drop}
use lib.Seq.{take-add, take_at, drop-drop}
use borrow.Author.Tests.{lt-ltb, le-ltb}
use Rattle.std.specs.Prelude.{Ok}
use Rattle.laws.specs.Lists.{each, any, over}
use Rattle.laws.proofs.Tests.{by_le}
use Rattle.laws.proofs.Lists.{each_append}
use Rattle.laws.proofs.Maps.{take_map, drop_map, drop_taken}
use Rattle.rules.specs.Tables.{Tables, built_tables}
use Rattle.rules.specs.Refusals.{paper, paper_answer}
use Rattle.rules.specs.Walk.{start_room, row_numbers, row_writes}
use Rattle.rules.specs.Waits.{nearest}
use Rattle.rules.specs.declared.Grid.{Grid}
use Rattle.rules.specs.declared.Point.{Point}
use Rattle.rules.specs.declared.Refusal.TheVariants.{Room}
use Rattle.rules.specs.declared.Three.{Three}
use Rattle.demands.specs.Asking.{Ask, Asked, ask_all, numbers_given, met_damage, wanted_in_all, promised}
use Rattle.demands.proofs.Around.{Around}
use Rattle.demands.proofs.Machine.{written}
use Rattle.demands.proofs.Nearest.{in_order, row_for, rows_write, nearest_is, waiting_at}
use Rattle.demands.proofs.OneAsk.{state_at, front_at, next_of, one_ask, lacks_room}

-- an ask is short, or one before it was, where more rows were asked for than there are
short_now : (n k j m : ℕ) → m ≡ min j (n - k) → (ltb n k || ltb m j) ≡ ltb n (k + j)
short_now n k j m e =
    by_le (k + j) n
    (λ u. rw (le-ltb n k (omega arith), le-ltb m j (omega arith), le-ltb n (k + j) u))
    (λ u. by_le k n (λ v. rw (le-ltb n k v, lt-ltb m j (omega arith), lt-ltb n (k + j) u)) (λ v. rw (lt-ltb n k v, lt-ltb n (k + j) u)))

module _ {g : Grid} {reg : List ℕ} {q : Point} (S : Around g reg q) (tail : List ℕ) (size : ℕ) (room : start_room g reg ≤ size) where
  abbrev T : Tables
  T = built_tables g reg tail

  abbrev F : List ℕ
  F = in_order g reg q

  abbrev rows_for : List ℕ → List Three
  rows_for l = map (row_for g reg q) l

  next_rows : (k j : ℕ) → take j (drop (length (rows_for (take k F))) (nearest g reg q)) ≡ rows_for (take j (drop k F))
  next_rows k j =
      rw (nearest_is S, length-map (take k F) (row_for g reg q), drop_map (row_for g reg q) (length (take k F)) F, drop_taken k F)
      (take_map (row_for g reg q) j (drop k F))

  rows_so_far : (k j : ℕ) → rows_for (take k F) ++ rows_for (take j (drop k F)) ≡ rows_for (take (k + j) F)
  rows_so_far k j = sym (map-append (row_for g reg q) (take k F) (take j (drop k F))) ∙ ap rows_for (sym (take-add k j F))

  ended : (k j : ℕ) → (ltb (length F) k || ltb (length (rows_for (take j (drop k F)))) j) ≡ ltb (length F) (k + j)
  ended k j =
      rw (length-map (take j (drop k F)) (row_for g reg q))
      (short_now (length F) k j (length (take j (drop k F))) (length-take j (drop k F) ∙ ap (min j) (length-drop k F)))

  -- what an ask leaves once k rows were asked for
  abbrev leaves : ℕ → Ask → Asked
  leaves k a = (
    paper_answer (Ok (length (next_of S tail size room k a.wanted))),
    state_at S tail size room (k + a.wanted),
    front_at S tail size room (k + a.wanted),
    over (each (written g reg q) (next_of S tail size room k a.wanted)) a.output,
  )

  asked_next : (k : ℕ) (a : Ask) (more : List Ask) → row_numbers * a.wanted ≤ length a.output
      → ask_all g T (state_at S tail size room k) (front_at S tail size room k) (a ∷ more)
      ≡ leaves k a ∷ ask_all g T (state_at S tail size room (k + a.wanted)) (front_at S tail size room (k + a.wanted)) more
  unfolding ask_all
  asked_next k a more fits = rw (one_ask S tail size room k a.wanted a.output fits)

  -- is what is promised of it
  promised_next : (k : ℕ) (a : Ask) (more : List Ask)
      → promised g T q size (rows_for (take k F)) (ltb (length F) k) (a ∷ more)
      ≡ leaves k a ∷ promised g T q size (rows_for (take (k + a.wanted) F)) (ltb (length F) (k + a.wanted)) more
  unfolding promised built_tables
  promised_next k a more =
      rw (
        next_rows k a.wanted,
        rows_so_far k a.wanted,
        ended k a.wanted,
        ← waiting_at S tail (k + a.wanted),
        length-map (take a.wanted (drop k F)) (row_for g reg q),
        rows_write g reg q (take a.wanted (drop k F)),
      )

  abbrev AllFit : List Ask → Type 0
  AllFit l = (a : Ask) → Memᴰ a l → row_numbers * a.wanted ≤ length a.output

  pub asks_from : (k : ℕ) (l : List Ask) → AllFit l
      → ask_all g T (state_at S tail size room k) (front_at S tail size room k) l ≡ promised g T q size (rows_for (take k F)) (ltb (length F) k) l
  asks_from k [] fit = unfold ask_all promised in refl
  asks_from k (a ∷ more) fit =
      asked_next k a more (fit a (Memᴰ.head refl))
      ∙ ap (λ (r : List Asked). leaves k a ∷ r) (asks_from (k + a.wanted) more (λ b m. fit b (Memᴰ.tail m)))
      ∙ sym (promised_next k a more)

  -- ---- the rows given, joined

  written_length : (l : List ℕ) → length (each (written g reg q) l) ≡ row_numbers * length l
  unfolding row_writes
  written_length [] = refl
  written_length (x ∷ l) = let e = written_length l in omega arith

  gave : (k : ℕ) (a : Ask) → numbers_given (leaves k a) ≡ each (written g reg q) (next_of S tail size room k a.wanted)
  unfolding numbers_given paper_answer
  gave k a = take_at (each (written g reg q) (next_of S tail size room k a.wanted)) _ _ (written_length (next_of S tail size room k a.wanted))

  pub joined_from : (k : ℕ) (l : List Ask) → AllFit l
      → each numbers_given (ask_all g T (state_at S tail size room k) (front_at S tail size room k) l)
      ≡ each (written g reg q) (take (wanted_in_all l) (drop k F))
  unfolding wanted_in_all
  joined_from k [] fit = unfold ask_all in refl
  joined_from k (a ∷ more) fit =
      ap (each numbers_given) (asked_next k a more (fit a (Memᴰ.head refl)))
      ∙ ap₂ ◌++◌ (gave k a) (joined_from (k + a.wanted) more (λ b m. fit b (Memᴰ.tail m)))
      ∙ ap (λ (l : List ℕ). each (written g reg q) (next_of S tail size room k a.wanted) ++ each (written g reg q) (take (wanted_in_all more) l)) (sym (drop-drop a.wanted k F))
      ∙ sym (each_append (written g reg q) (next_of S tail size room k a.wanted) (take (wanted_in_all more) (drop a.wanted (drop k F))))
      ∙ ap (each (written g reg q)) (sym (take-add a.wanted (wanted_in_all more) (drop k F)))

  -- ---- room or not, no ask meets damage

  refused_next : (k : ℕ) (a : Ask) (more : List Ask) → length a.output < row_numbers * a.wanted
      → ask_all g T (state_at S tail size room k) (front_at S tail size room k) (a ∷ more)
      ≡ (paper (Room (row_numbers * a.wanted)), state_at S tail size room k, front_at S tail size room k, a.output)
      ∷ ask_all g T (state_at S tail size room k) (front_at S tail size room k) more
  unfolding ask_all
  refused_next k a more lacks = rw (lacks_room S tail size room k a.wanted a.output lacks)

  pub no_damage_from : (k : ℕ) (l : List Ask) → any met_damage (ask_all g T (state_at S tail size room k) (front_at S tail size room k) l) ≡ false
  unfolding met_damage paper paper_answer
  no_damage_from k [] = unfold ask_all in refl
  no_damage_from k (a ∷ more) =
      by_le (row_numbers * a.wanted) (length a.output)
      (λ h. rw (asked_next k a more h) (no_damage_from (k + a.wanted) more))
      (λ h. rw (refused_next k a more h) (no_damage_from k more))
