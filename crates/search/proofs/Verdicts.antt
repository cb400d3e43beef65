-- A search judged: each refusal in its order, and what its promise says of one that is accepted. Assumes nothing.
use mathlib.Core.Path.{◌≡◌, sym, ap, ◌∙◌}
use mathlib.Core.Bool.{true, false, not}
use mathlib.Core.List.{List}
use Prim.Native.Nat.{ℕ, ◌≤◌, ◌<◌}
use native.Mathlib.Omega.{arith}
use lib.Dec.{ltb}
use lib.ListN.{length, take, drop}
use lib.Seq.{take_at}
use borrow.Author.Tests.{lt-ltb, le-ltb, ltb-false, not-false}
use Rattle.std.specs.Prelude.{Option, Some, None, Ok, Err}
use Rattle.laws.specs.Lists.{each, over}
use Rattle.laws.proofs.Tests.{clash}
use Rattle.rules.specs.Sizes.{most_radius, bad_sizes, bad_point}
use Rattle.rules.specs.Tables.{Tables, bad_lengths, good_runs}
use Rattle.rules.specs.Refusals.{paper_answer, pass, refuse}
use Rattle.rules.specs.Search.{read_runs, radius_hits, hit_writes, search_verdict, searches}
use Rattle.rules.specs.declared.Grid.{Grid}
use Rattle.rules.specs.declared.Point.{Point}
use Rattle.rules.specs.declared.Refusal.{Refusal}
use Rattle.rules.specs.declared.Refusal.TheVariants.{Sizes, Lengths, Place, Radius, Damage, Room}
use Rattle.tables.proofs.Verdicts.{judge_pass}
use Rattle.search.specs.Reading.{box_most, Placed, keep_hit, kept, JudgedRuns}
use Rattle.search.proofs.Left.{writes_are, kept_fits}

-- nothing is refused of what a search asks, but for the entries that it reads
pub record Ready (g : Grid) (t : Tables) (q : Point) (r : ℕ) : Type 0 where
  pub placed : Placed g q
  pub lengths : bad_lengths g t ≡ false
  pub radius : r ≤ most_radius

module _ (g : Grid) (t : Tables) (q : Point) (r : ℕ) where
  -- ---- refused, in this order

  pub refused_sizes : bad_sizes g ≡ true → search_verdict g t q r ≡ refuse Sizes
  unfolding search_verdict
  refused_sizes a = rw a

  pub refused_lengths : bad_sizes g ≡ false → bad_lengths g t ≡ true → search_verdict g t q r ≡ refuse Lengths
  unfolding search_verdict
  refused_lengths a b = rw (a, b)

  pub refused_place : bad_sizes g ≡ false → bad_lengths g t ≡ false → bad_point g q ≡ true → search_verdict g t q r ≡ refuse Place
  unfolding search_verdict
  refused_place a b c = rw (a, b, c)

  pub refused_radius : bad_sizes g ≡ false → bad_lengths g t ≡ false → bad_point g q ≡ false → most_radius < r
      → search_verdict g t q r ≡ refuse Radius
  unfolding search_verdict
  refused_radius a b c d = rw (a, b, c, lt-ltb most_radius r d)

  pub promise_refused : (v : Refusal) → search_verdict g t q r ≡ refuse v → (out : List ℕ) → (paper_answer (Err v), out) ≡ searches g t q r out
  unfolding searches paper_answer
  promise_refused v e out = rw e

  -- ---- accepted

  pub passed : search_verdict g t q r ≡ pass → Ready g t q r × (good_runs g t (read_runs g q r) ≡ true)
  unfolding search_verdict
  passed e =
      let a = judge_pass (bad_sizes g) Sizes _ e in
      let b = judge_pass (bad_lengths g t) Lengths _ a.1 in
      let c = judge_pass (bad_point g q) Place _ b.1 in
      let d = judge_pass (ltb most_radius r) Radius _ c.1 in
      let f = judge_pass (not (good_runs g t (read_runs g q r))) Damage pass d.1 in
      (record { placed = record { sizes = a.0; point = c.0 }; lengths = b.0; radius = ltb-false _ _ d.0 }, not-false _ f.0)

  module _ (ok : Ready g t q r) where
    pub refused_damage : good_runs g t (read_runs g q r) ≡ false → search_verdict g t q r ≡ refuse Damage
    unfolding search_verdict
    refused_damage e = rw (ok.placed.sizes, ok.lengths, ok.placed.point, le-ltb most_radius r ok.radius, e)

    pub good_passes : good_runs g t (read_runs g q r) ≡ true → search_verdict g t q r ≡ pass
    unfolding search_verdict
    good_passes e = rw (ok.placed.sizes, ok.lengths, ok.placed.point, le-ltb most_radius r ok.radius, e)

    -- the hits are counted: what the promise says where they find no room, and where they do
    module _ {lent₀ lent : List ℕ} {n : ℕ} (j : JudgedRuns g t q r (read_runs g q r) box_most 0 lent₀ (Some n) lent) where
      counted : n ≡ length (radius_hits g t q r)
      unfolding radius_hits
      counted = let e = j.left.counts in omega arith

      written : length (each (hit_writes g t.reg q) (radius_hits g t q r)) ≡ n
      written = ap length (writes_are g t.reg q (radius_hits g t q r)) ∙ sym counted

      pub promise_room : (out : List ℕ) → length out < n → (paper_answer (Err (Room n)), out) ≡ searches g t q r out
      unfolding searches paper_answer
      promise_room out h = rw (good_passes j.left.still, written, lt-ltb (length out) n h)

      pub promise_done : (out : List ℕ) → n ≤ length out → (out' : List ℕ)
          → out' ≡ over (each (hit_writes g t.reg q) (radius_hits g t q r)) out → (paper_answer (Ok n), out') ≡ searches g t q r out
      unfolding searches paper_answer
      promise_done out h out' f = rw (good_passes j.left.still, f, ← counted, written, le-ltb (length out) n h)

      keeps : lent ≡ kept (keep_hit g t.reg q) 0 (radius_hits g t q r) lent₀
      unfolding radius_hits kept
      keeps = j.left.keeps

      -- where all were kept, the hits are the first of what was lent
      pub kept_first : n ≤ length lent → length lent ≡ length lent₀ → take n lent ≡ each (hit_writes g t.reg q) (radius_hits g t q r)
      kept_first h s =
          let hits = radius_hits g t q r in
          let m = counted in
          let w = each (hit_writes g t.reg q) hits in
          ap (take n) (keeps ∙ kept_fits g t.reg q hits lent₀ (omega arith)) ∙ take_at w (drop (length w) lent₀) n written

      -- where they were not, they are read again, and all find room
      pub read_again : (y : Option ℕ) (out₀ out : List ℕ) → n ≤ length out₀ → JudgedRuns g t q r (read_runs g q r) box_most 0 out₀ y out
          → out ≡ over (each (hit_writes g t.reg q) (radius_hits g t q r)) out₀
      unfolding radius_hits kept
      read_again None out₀ out h k = clash (sym j.left.still ∙ k)
      read_again (Some m) out₀ out h k =
          let e = counted in k.left.keeps ∙ kept_fits g t.reg q (radius_hits g t q r) out₀ (omega arith)
