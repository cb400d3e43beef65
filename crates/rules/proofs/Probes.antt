-- A list of searches against its single searches: where each list stands, that it is the single search's, and which refusals are a probe's.
-- Assumes nothing.
use mathlib.Core.Path.{◌≡◌, refl, sym, ap, ◌∙◌}
use mathlib.Core.Bool.{Bool, true, false, ◌||◌}
use mathlib.Core.List.{List, [], ◌∷◌, ◌++◌, append_assoc}
use mathlib.Core.Option.{Option, none, some}
use Prim.Native.Nat.{ℕ, zero, suc, ◌+◌, ◌-◌, ◌≤◌, ◌<◌}
use native.Mathlib.Nat.{zero-add, add_assoc, add-zero, add-sub_cancel_left, le_of_suc-le-suc, not-suc-le-zero}
use native.Mathlib.Omega.{arith}
use lib.Dec.{ltb, eqb}
use lib.ListN.{length, get_or, take, drop, length-append, get_or-append}
use lib.Seq.{take_at, drop_at, split_at, take-suc}
use Rattle.std.specs.Prelude.{Result, Ok, Err}
use Rattle.laws.specs.Lists.{each, part, over}
use Rattle.laws.proofs.Tests.{clash}
use Rattle.laws.proofs.Lists.{each_append}
use Rattle.rules.specs.Sizes.{bad_sizes}
use Rattle.rules.specs.Tables.{Tables, bad_lengths}
use Rattle.rules.specs.Refusals.{Paper, paper, paper_answer, paper_listed, Verdict, pass, refuse, judge, unless}
use Rattle.rules.specs.Search.{radius_hits, searches}
use Rattle.rules.specs.Probes.{most_probes, point_of, probe_writes, probes_write, list_ends, probes_verdict, first_refused, unless_at, lists_room, searches_all}
use Rattle.rules.specs.declared.Grid.{Grid}
use Rattle.rules.specs.declared.Probe.{Probe}
use Rattle.rules.specs.declared.Refusal.{Refusal}
use Rattle.rules.specs.declared.Refusal.TheVariants.{Sizes, Lengths}
use Rattle.rules.specs.declared.ListRefusal.{ListRefusal}
use Rattle.rules.specs.declared.ListRefusal.TheVariants.{At, Whole}
use Rattle.rules.proofs.Papers.{refused_number, listed_same}
use Rattle.rules.proofs.FirstRefused.{probe_at, of_probe, alone_fits, alone_refused, refused_always, room_alone, refused_of_probe, none_refused, first_is, first_found}

-- where list i begins and ends, by the ends of all lists
abbrev pub begin_of : List ℕ → ℕ → ℕ
begin_of ends zero = 0
begin_of ends (suc i) = get_or ends i 0

abbrev pub end_of : List ℕ → ℕ → ℕ
end_of ends i = get_or ends i 0

module _ (g : Grid) (t : Tables) where
  -- ---- where the lists stand

  pub length_ends : (a : ℕ) (ps : List Probe) → length (list_ends g t a ps) ≡ length ps
  unfolding list_ends
  length_ends a [] = refl
  length_ends a (p ∷ ps) = ap suc (length_ends (a + length (probe_writes g t p)) ps)

  -- a list ends behind all lists up to it
  pub end_is : (a : ℕ) (ps : List Probe) (i : ℕ) → i < length ps → end_of (list_ends g t a ps) i ≡ a + length (probes_write g t (take (suc i) ps))
  unfolding list_ends probes_write
  end_is a [] i h = absurd (not-suc-le-zero h)
  end_is a (p ∷ ps) zero h = ap (λ (n : ℕ). a + n) (sym (length-append (probe_writes g t p) [] ∙ add-zero _))
  end_is a (p ∷ ps) (suc i) h =
      end_is (a + length (probe_writes g t p)) ps i (le_of_suc-le-suc h)
      ∙ add_assoc a (length (probe_writes g t p)) _
      ∙ ap (λ (n : ℕ). a + n) (sym (length-append (probe_writes g t p) (each (probe_writes g t) (take (suc i) ps))))

  -- and begins behind all before it
  pub begin_is : (ps : List Probe) (i : ℕ) → i < length ps → begin_of (list_ends g t 0 ps) i ≡ length (probes_write g t (take i ps))
  unfolding probes_write
  begin_is ps zero h = refl
  begin_is ps (suc i) h = end_is 0 ps i (omega arith) ∙ (omega arith)

  -- so between the two stand as many numbers as the list has
  pub end_from_begin : (ps : List Probe) (i : ℕ) → i < length ps
      → end_of (list_ends g t 0 ps) i ≡ begin_of (list_ends g t 0 ps) i + length (probe_writes g t (probe_at ps i))
  unfolding probes_write
  end_from_begin ps i h =
      end_is 0 ps i h
      ∙ ap (λ (l : List Probe). 0 + length (each (probe_writes g t) l)) (take-suc ps i _ h)
      ∙ ap (λ (l : List ℕ). 0 + length l) (each_append (probe_writes g t) (take i ps) (probe_at ps i ∷ []))
      ∙ counted
    where
      counted : 0 + length (each (probe_writes g t) (take i ps) ++ (probe_writes g t (probe_at ps i) ++ []))
          ≡ begin_of (list_ends g t 0 ps) i + length (probe_writes g t (probe_at ps i))
      counted =
          let b = begin_is ps i h in
          let u = length-append (each (probe_writes g t) (take i ps)) (probe_writes g t (probe_at ps i) ++ []) in
          let v = length-append (probe_writes g t (probe_at ps i)) [] in
          omega (arith, b, u, v)

  -- and they are the list
  pub part_is_list : (ps : List Probe) (i : ℕ) (tail : List ℕ) → i < length ps
      → part (probes_write g t ps ++ tail) (begin_of (list_ends g t 0 ps) i) (end_of (list_ends g t 0 ps) i) ≡ probe_writes g t (probe_at ps i)
  unfolding probes_write
  part_is_list ps i tail h =
      rw (end_from_begin ps i h, begin_is ps i h, add-sub_cancel_left, laid)
      (rw (drop_at before (mid ++ behind) (length before) refl) (take_at mid behind (length mid) refl))
    where
      before : List ℕ
      before = each (probe_writes g t) (take i ps)

      mid : List ℕ
      mid = probe_writes g t (probe_at ps i)

      behind : List ℕ
      behind = each (probe_writes g t) (drop (suc i) ps) ++ tail

      laid : each (probe_writes g t) ps ++ tail ≡ before ++ (mid ++ behind)
      laid =
          ap (λ (l : List Probe). each (probe_writes g t) l ++ tail) (split_at ps i _ h)
          ∙ ap (λ (l : List ℕ). l ++ tail) (each_append (probe_writes g t) (take i ps) (probe_at ps i ∷ drop (suc i) ps))
          ∙ append_assoc before (mid ++ each (probe_writes g t) (drop (suc i) ps)) tail
          ∙ ap (λ (l : List ℕ). before ++ l) (append_assoc mid (each (probe_writes g t) (drop (suc i) ps)) tail)

-- ---- an accepted call

-- a call's answer by the three judges
abbrev pub judged_as : Verdict → Option (Refusal × ℕ) → Verdict → Paper × List ℕ × List ℕ → List ℕ → List ℕ → Paper × List ℕ × List ℕ
judged_as v w u done out ends =
    unless v (λ why. (paper_listed (Err (At why 0)), out, ends))
    (unless_at w (λ why i. (paper_listed (Err (At why i)), out, ends)) (unless u (λ why. (paper_listed (Err (Whole why)), out, ends)) done))

-- an accepted one has met no refusal
when_accepted : (v : Verdict) (w : Option (Refusal × ℕ)) (u : Verdict) (done : Paper × List ℕ × List ℕ) (out ends : List ℕ)
    → (judged_as v w u done out ends).0.number ≡ 0 → (v ≡ pass) × (w ≡ none) × (u ≡ pass)
unfolding paper_listed
when_accepted pass none pass done out ends e = (refl, refl, refl)
when_accepted pass none (refuse why) done out ends e = clash (sym (ap (λ (n : ℕ). eqb n 0) e) ∙ refused_number why)
when_accepted pass (some w) u done out ends e = clash (sym (ap (λ (n : ℕ). eqb n 0) e) ∙ refused_number w.0)
when_accepted (refuse why) w u done out ends e = clash (sym (ap (λ (n : ℕ). eqb n 0) e) ∙ refused_number why)

module _ (g : Grid) (t : Tables) (ps : List Probe) (out ends : List ℕ) (accepted : (searches_all g t ps out ends).0.number ≡ 0) where
  abbrev left : List ℕ
  left = (searches_all g t ps out ends).1

  abbrev left_ends : List ℕ
  left_ends = (searches_all g t ps out ends).2

  judged : (probes_verdict g t (length ps) ≡ pass) × (first_refused g t 0 ps ≡ none) × (lists_room (length (probes_write g t ps)) (length ps) out ends ≡ pass)
  unfolding searches_all
  judged = when_accepted (probes_verdict g t (length ps)) (first_refused g t 0 ps) (lists_room (length (probes_write g t ps)) (length ps) out ends) _ out ends accepted

  pub all_written : searches_all g t ps out ends
      ≡ (paper_listed (Ok (length (probes_write g t ps))), over (probes_write g t ps) out, over (list_ends g t 0 ps) ends)
  unfolding searches_all
  all_written = rw (judged.0, judged.1, judged.2)

  end_stays : (i : ℕ) → i < length ps → end_of left_ends i ≡ end_of (list_ends g t 0 ps) i
  end_stays i h =
      ap (λ (x : Paper × List ℕ × List ℕ). end_of x.2 i) all_written
      ∙ get_or-append (list_ends g t 0 ps) _ 0 i (rw (length_ends g t 0 ps) h)

  begin_stays : (i : ℕ) → i < length ps → begin_of left_ends i ≡ begin_of (list_ends g t 0 ps) i
  begin_stays zero h = refl
  begin_stays (suc i) h = end_stays i (omega arith)

  -- between its two ends a list has all its numbers
  pub list_counted : (i : ℕ) → i < length ps → end_of left_ends i ≡ begin_of left_ends i + length (probe_writes g t (probe_at ps i))
  list_counted i h = rw (end_stays i h, begin_stays i h) (end_from_begin g t ps i h)

  pub list_left : (i : ℕ) → i < length ps → part left (begin_of left_ends i) (end_of left_ends i) ≡ probe_writes g t (probe_at ps i)
  list_left i h =
      rw (end_stays i h, begin_stays i h)
      (ap (λ (x : Paper × List ℕ × List ℕ). part x.1 (begin_of (list_ends g t 0 ps) i) (end_of (list_ends g t 0 ps) i)) all_written
      ∙ part_is_list g t ps i _ h)

  -- the single search of each probe accepts every output with room for its list, and leaves exactly the part between the two ends over it
  pub list_is_single : (i : ℕ) → i < length ps → (mine : List ℕ) → end_of left_ends i - begin_of left_ends i ≤ length mine
      → searches g t (point_of (probe_at ps i)) (probe_at ps i).r mine
      ≡ (paper_answer (Ok (length (radius_hits g t (point_of (probe_at ps i)) (probe_at ps i).r))), over (part left (begin_of left_ends i) (end_of left_ends i)) mine)
  list_is_single i h mine room =
      rw (list_left i h)
      (let c = list_counted i h in alone_fits g t (probe_at ps i) (none_refused g t 0 ps judged.1 i h) mine (omega (arith, c, room)))

-- ---- a call that is refused for a probe

-- sizes and lengths are judged before all probes
pub probes_judged : (g : Grid) (t : Tables) (m : ℕ) → probes_verdict g t m ≡ pass → (bad_sizes g ≡ false) × (bad_lengths g t ≡ false)
unfolding probes_verdict
probes_judged g t m e = go (bad_sizes g) (bad_lengths g t) (ltb most_probes m) e
  where
    go : (a b c : Bool) → judge a Sizes (judge (b || c) Lengths pass) ≡ pass → (a ≡ false) × (b ≡ false)
    go true b c u = clash (ap (λ (v : Verdict). unless v (λ w. true) false) u)
    go false true c u = clash (ap (λ (v : Verdict). unless v (λ w. true) false) u)
    go false false c u = (refl, refl)

-- so no refusal that comes before them is a probe's
before_probes : (g : Grid) (t : Tables) (m : ℕ) (why : Refusal) → probes_verdict g t m ≡ refuse why → of_probe why ≡ false
unfolding probes_verdict of_probe paper
before_probes g t m why e = go (bad_sizes g) (bad_lengths g t || ltb most_probes m) e
  where
    go : (a b : Bool) → judge a Sizes (judge b Lengths pass) ≡ refuse why → of_probe why ≡ false
    go true b u = ap (λ (v : Verdict). unless v of_probe false) (sym u)
    go false true u = ap (λ (v : Verdict). unless v of_probe false) (sym u)
    go false false u = ap (λ (v : Verdict). unless v of_probe false) (sym u)

-- what an answer says of a probe
abbrev at_of : Result ℕ ListRefusal → Option (Refusal × ℕ)
at_of (Ok v) = none
at_of (Err (At why i)) = some (why, i)
at_of (Err (Whole why)) = none

abbrev is_at : Result ℕ ListRefusal → Bool
is_at a = unless_at (at_of a) (λ why i. true) false

abbrev why_of : Result ℕ ListRefusal → Refusal
why_of a = unless_at (at_of a) (λ why i. why) Sizes

-- 1 and 2 do not apply, probe i's search is refused so whatever output it is lent, and no earlier probe's search is refused but for room
pub record RefusedAlone (g : Grid) (t : Tables) (ps : List Probe) (why : Refusal) (i : ℕ) : Type 0 where
  pub judged : probes_verdict g t (length ps) ≡ pass
  pub among : i < length ps
  pub refused : (mine : List ℕ) → searches g t (point_of (probe_at ps i)) (probe_at ps i).r mine ≡ (paper why, mine)
  pub earlier : (j : ℕ) → j < i → (mine : List ℕ) → length (probe_writes g t (probe_at ps j)) ≤ length mine
      → (searches g t (point_of (probe_at ps j)) (probe_at ps j).r mine).0.number ≡ 0

module _ (g : Grid) (t : Tables) (ps : List Probe) (why : Refusal) (i : ℕ) where
  -- such a probe is what is found, and refuses the call with 4, 5 or 7
  found_alone : RefusedAlone g t ps why i → first_refused g t 0 ps ≡ some (why, i)
  found_alone a =
      first_is g t 0 ps why i a.among (refused_always g t (probe_at ps i) why a.refused) (λ j h. room_alone g t (probe_at ps j) (a.earlier j h))
      ∙ ap (λ (n : ℕ). some (why, n)) (zero-add i)

  alone_found : probes_verdict g t (length ps) ≡ pass → first_refused g t 0 ps ≡ some (why, i) → RefusedAlone g t ps why i
  unfolding paper_answer
  alone_found ok e =
      let s = first_found g t ps why i e in
      record {
        judged = ok;
        among = s.0;
        refused = alone_refused g t (probe_at ps i) why s.1;
        earlier = λ j h mine room. ap (λ (x : Paper × List ℕ). x.0.number) (alone_fits g t (probe_at ps j) (s.2 j h) mine room);
      }

  pub single_refuses : (out ends : List ℕ) → RefusedAlone g t ps why i
      → (searches_all g t ps out ends ≡ (paper_listed (Err (At why i)), out, ends)) × (of_probe why ≡ true)
  unfolding searches_all
  single_refuses out ends a =
      let good = probes_judged g t (length ps) a.judged in (
        rw (a.judged, found_alone a),
        refused_of_probe g t (probe_at ps i) why good.0 good.1 (refused_always g t (probe_at ps i) why a.refused),
      )

  -- and a call so refused is refused for such a probe
  pub refused_as_single : (out ends : List ℕ) → (searches_all g t ps out ends).0 ≡ paper_listed (Err (At why i)) → of_probe why ≡ true
      → RefusedAlone g t ps why i
  unfolding searches_all
  refused_as_single out ends e four = go (probes_verdict g t (length ps)) refl (first_refused g t 0 ps) refl (lists_room (length (probes_write g t ps)) (length ps) out ends) e
    where
      go : (v : Verdict) → probes_verdict g t (length ps) ≡ v → (w : Option (Refusal × ℕ)) → first_refused g t 0 ps ≡ w → (u : Verdict)
          → (judged_as v w u (paper_listed (Ok (length (probes_write g t ps))), over (probes_write g t ps) out, over (list_ends g t 0 ps) ends) out ends).0
          ≡ paper_listed (Err (At why i))
          → RefusedAlone g t ps why i
      go pass v none w pass k = clash (sym (ap is_at (listed_same _ _ k)))
      go pass v none w (refuse z) k = clash (sym (ap is_at (listed_same _ _ k)))
      go pass v (some x) w u k = alone_found v (w ∙ ap at_of (listed_same (Err (At x.0 x.1)) (Err (At why i)) k))
      go (refuse z) v w x u k = clash (sym four ∙ ap of_probe (sym (ap why_of (listed_same (Err (At z 0)) (Err (At why i)) k))) ∙ before_probes g t (length ps) z v)
