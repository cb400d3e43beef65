-- What a search that is answered has found: hits that entries name, each with a rectangle on the grid; and what is printed of them.
-- Assumes nothing.
use mathlib.Core.Path.{◌≡◌, refl, sym, ap, ◌∙◌}
use mathlib.Core.Bool.{true, false, not}
use mathlib.Core.List.{List, [], ◌∷◌, append-nil, Memᴰ}
use Prim.Native.Nat.{ℕ, ◌≤◌, ◌<◌}
use native.Mathlib.Omega.{arith}
use lib.Dec.{ltb, eqb}
use lib.ListN.{length, get_or, take, drop, length-append}
use lib.Seq.{take_at}
use Rattle.laws.specs.Lists.{each, over, all}
use Rattle.laws.proofs.Tests.{by_bool, clash, snd_true, neither, not_not}
use Rattle.laws.proofs.Members.{mem_filter, mem_each}
use Rattle.laws.proofs.Computed.{all_mem}
use Rattle.laws.proofs.Maps.{at_place}
use Rattle.rules.specs.Distance.{point, square}
use Rattle.rules.specs.Register.{count, rectangle, bad_span, bad_footprint, bad_entry, recorded}
use Rattle.rules.specs.Tables.{Tables, run_at, bad_ends, run_start, run_end, good_run, good_runs}
use Rattle.rules.specs.Refusals.{Paper, paper, paper_answer, says, Verdict, pass, refuse, unless, fit}
use Rattle.rules.specs.Search.{read_runs, is_hit, radius_hits, search_verdict, searches}
use Rattle.rules.specs.Text.{line_of, found_word, hit_text, hit_of, hits_text, refusal_text, answer_text}
use Rattle.rules.specs.declared.Grid.{Grid}
use Rattle.rules.specs.declared.Point.{Point}
use Rattle.rules.specs.declared.Rect.{Rect}
use Rattle.rules.specs.declared.Refusal.{Refusal}
use Rattle.rules.proofs.Good.{good_entry}
use Rattle.rules.proofs.Papers.{refused_number}
use Rattle.grid.specs.Tiles.{Near}
use Rattle.search.proofs.Entries.{near_point, near_rect}
use Rattle.search.proofs.Left.{writes_are}
use Rattle.search.proofs.Verdicts.{passed}
use Rattle.sheet.specs.Put.{Output, puts}
use Rattle.sheet.proofs.Puts.{put_both}
use Rattle.answers.specs.Answers.{Named, AllNamed, Answers}
use Rattle.std.specs.Prelude.{Result, Ok, Err}

-- ---- one hit

module _ (g : Grid) (reg : List ℕ) (q : Point) (hit : ℕ) (h : Named g reg q hit) where
  pub hit_stands : hit < count reg
  hit_stands = (good_entry g reg hit h.good).0

  pub point_near : Near (point q)
  point_near = near_point g q h.placed

  pub hit_near : (a : Rect) → a ≡ rectangle g reg hit → Near a
  unfolding bad_footprint rectangle
  hit_near a e =
      let b = neither (bad_span g (recorded reg hit).x) (bad_span g (recorded reg hit).y) (good_entry g reg hit h.good).1 in
      near_rect g q h.placed a (ap (λ (c : Rect). bad_span g c.x) e ∙ b.0) (ap (λ (c : Rect). bad_span g c.y) e ∙ b.1)

pub hit_is : (g : Grid) (reg : List ℕ) (q : Point) (hit s : ℕ) (a : Rect) → a ≡ rectangle g reg hit → s ≡ square (point q) a
    → hit_text hit s ≡ hit_of g reg q hit
unfolding hit_of
hit_is g reg q hit s a e f = ap (hit_text hit) (f ∙ ap (square (point q)) e)

-- ---- a search that is answered

module _ (g : Grid) (t : Tables) (q : Point) (r : ℕ) where
  -- the hits are entries that are read, and they show no damage
  pub hit_named : search_verdict g t q r ≡ pass → (i : ℕ) → Memᴰ i (radius_hits g t q r) → Named g t.reg q i
  unfolding radius_hits good_runs good_run
  hit_named e i m =
      let p = passed g t q r e in
      let w = mem_each (run_at t) (read_runs g q r) (mem_filter (is_hit g t.reg q r) (each (run_at t) (read_runs g q r)) m).0 in
      let k = w.0 in
      let d : good_run g t k ≡ true = all_mem (good_run g t) (read_runs g q r) p.1 w.1 in
      let a : all (λ j. not (bad_entry g t.reg j)) (run_at t k) ≡ true =
      snd_true (not (bad_ends (length t.entries) (run_start t.starts k) (run_end t.starts k))) _ d in
      record {
        placed = p.0.placed;
        good = not_not _ (all_mem (λ j. not (bad_entry g t.reg j)) (run_at t k) a w.2);
      }

  module _ (hits₀ hits : List ℕ) (n : ℕ) (a : Result ℕ Refusal) (is : a ≡ Ok n) (s : ◌≡◌ {A = Paper × List ℕ} (paper_answer a, hits) (searches g t q r hits₀)) where
    e : ◌≡◌ {A = Paper × List ℕ} (paper_answer (Ok n), hits) (searches g t q r hits₀)
    e = ap (λ (x : Result ℕ Refusal). (paper_answer x, hits)) (sym is) ∙ s

    -- the verdict, how many there are, and where they stand
    found : (search_verdict g t q r ≡ pass) × (n ≡ length (radius_hits g t q r)) × (hits ≡ over (radius_hits g t q r) hits₀)
    unfolding searches paper_answer
    found = go (search_verdict g t q r) refl (rw (writes_are g t.reg q (radius_hits g t q r)) at e)
      where
        never : {X : Type 0} (v : Refusal) (l : List ℕ) → ◌≡◌ {A = Paper × List ℕ} (says 0 (n ∷ []), hits) (paper v, l) → X
        never v l f = clash (ap (λ (z : Paper × List ℕ). eqb z.0.number 0) f ∙ refused_number v)

        all_found : (m : ℕ) (l : List ℕ) → ◌≡◌ {A = Paper × List ℕ} (says 0 (n ∷ []), hits) (says 0 (m ∷ []), l) → (n ≡ m) × (hits ≡ l)
        all_found m l f = (ap (λ (z : Paper × List ℕ). get_or z.0.values 0 0) f, ap (λ (z : Paper × List ℕ). z.1) f)

        go : (v : Verdict) → search_verdict g t q r ≡ v
            → ◌≡◌ {A = Paper × List ℕ} (says 0 (n ∷ []), hits) (unless v (λ u. (paper u, hits₀)) (fit (length (radius_hits g t q r)) (radius_hits g t q r) hits₀))
            → (search_verdict g t q r ≡ pass) × (n ≡ length (radius_hits g t q r)) × (hits ≡ over (radius_hits g t q r) hits₀)
        go pass v f =
            by_bool (ltb (length hits₀) (length (radius_hits g t q r)))
            (λ b. never _ _ (rw b at f))
            (λ b.
            let a = all_found _ _ (rw b at f) in
            (v, a.0, a.1))
        go (refuse u) v f = never u hits₀ f

    -- the first n of the numbers that the search leaves are the hits
    first_hits : take n hits ≡ radius_hits g t q r
    first_hits = ap (take n) found.2 ∙ take_at (radius_hits g t q r) (drop (length (radius_hits g t q r)) hits₀) n (sym found.1)

    -- so many numbers stand there
    pub hits_stand : n ≤ length hits
    hits_stand = omega (arith, ap length found.2 ∙ length-append (radius_hits g t q r) (drop (length (radius_hits g t q r)) hits₀), found.1)

    pub hits_named : AllNamed g t.reg q (take n hits)
    hits_named =
        rw first_hits
        (record { named = λ i h. hit_named found.0 (get_or (radius_hits g t q r) i 0) (at_place (radius_hits g t q r) i h) })

    -- what is put of the count and of the hits is the question's text
    text_done : (o p s : Output) → p ≡ puts (line_of found_word n) o → s ≡ puts (each (hit_of g t.reg q) (take n hits)) p
        → s ≡ puts (answer_text g t.reg q (searches g t q r hits₀) []) o
    unfolding answer_text hits_text paper_answer
    text_done o p s a b =
        let c : length (take n hits) ≡ n = ap length first_hits ∙ sym found.1 in
        put_both (line_of found_word n) (each (hit_of g t.reg q) (take n hits)) o p s a b
        ∙ rw (← e, c, append-nil)

    pub done_answers : (out₀ out out' : List ℕ) (at k : ℕ) → ◌≡◌ {A = Output} (at, out) (puts (line_of found_word n) (0, out₀))
        → ◌≡◌ {A = Output} (k, out') (puts (each (hit_of g t.reg q) (take n hits)) (at, out))
        → Answers g t q r hits₀ out₀ (Ok k) hits out'
    unfolding paper_answer
    done_answers out₀ out out' at k b c = record {
      text = text_done (0, out₀) (at, out) (k, out') b c;
      ends = ap (λ (z : Paper × List ℕ). not (eqb z.0.number 0)) e;
      kept = ap (λ (z : Paper × List ℕ). z.1) e;
    }

  -- ---- a search that is refused

  pub refused_answers : (hits₀ hits : List ℕ) (v : Refusal) (a : Result ℕ Refusal) → a ≡ Err v
      → ◌≡◌ {A = Paper × List ℕ} (paper_answer a, hits) (searches g t q r hits₀)
      → (out₀ out : List ℕ) (k : ℕ) → ◌≡◌ {A = Output} (k, out) (puts (refusal_text (paper v)) (0, out₀))
      → Answers g t q r hits₀ out₀ (Err k) hits out
  unfolding answer_text paper_answer
  refused_answers hits₀ hits v a is s out₀ out k b =
      let e : ◌≡◌ {A = Paper × List ℕ} (paper v, hits) (searches g t q r hits₀) = ap (λ (x : Result ℕ Refusal). (paper_answer x, hits)) (sym is) ∙ s in
      let z : eqb (searches g t q r hits₀).0.number 0 ≡ false = rw (← e) (refused_number v) in
      record {
        text = b ∙ rw (← e, refused_number v);
        ends = rw z;
        kept = ap (λ (x : Paper × List ℕ). x.1) e;
      }
