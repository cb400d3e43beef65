-- The loop over a tile's classes: what is left of the tile, one class more, damage, the end. Assumes nothing.
use mathlib.Core.Path.{◌≡◌, refl, sym, ap, ◌∙◌}
use mathlib.Core.Bool.{Bool, true, false, ◌&&◌, and_assoc, and-true}
use mathlib.Core.List.{List, [], ◌∷◌, ◌++◌, append_assoc, append-nil}
use Prim.Native.Nat.{ℕ, suc, ◌+◌, ◌-◌, ◌*◌, ◌≤◌, ◌<◌}
use native.Mathlib.Nat.{add-zero}
use native.Mathlib.Omega.{arith}
use lib.Dec.{eqb}
use lib.ListN.{length}
use borrow.Author.Tests.{eqb-true, not-false}
use Rattle.std.specs.Prelude.{Option, Some, None}
use Rattle.laws.specs.Lists.{filter, from}
use Rattle.laws.proofs.Lists.{filter_append}
use Rattle.rules.specs.Sizes.{most_entries, tile_count}
use Rattle.rules.specs.Tables.{Tables, runs, bad_starts, good_runs, tile_runs}
use Rattle.rules.specs.Search.{allowed_run, allowed_runs}
use Rattle.rules.specs.declared.Grid.{Grid}
use Rattle.rules.specs.declared.Point.{Point}
use Rattle.rules.proofs.Good.{good_runs_append}
use Rattle.tables.specs.Entries.{good_entries}
use Rattle.search.specs.Reading.{tile_most, keep_hit, Left, hits_in, hits_of, entries_in, good_behind, Lies, Holds, JudgedEntries, JudgedRuns}
use Rattle.search.specs.declared.runs.Held.{Held}
use Rattle.search.proofs.Left.{left_same, left_on, left_bad, left_none}
use Rattle.search.proofs.Tile.{held, hits_of_append}

-- run 16×tile+class and the next have their starts
pub starts_stand : (g : Grid) (starts : List ℕ) → bad_starts g starts ≡ false → (tile class : ℕ) → tile < tile_count g → class < 16
    → 16 * tile + class + 1 < length starts
unfolding bad_starts runs
starts_stand g starts e tile class h k =
    let n : length starts ≡ 16 * tile_count g + 1 = eqb-true _ _ (not-false (eqb (length starts) (16 * tile_count g + 1)) e) in omega arith

module _ (g : Grid) (t : Tables) (q : Point) (r : ℕ) where
  -- ---- one class

  -- a class that is not allowed
  pub hold_none : (k : ℕ) → allowed_run g q k ≡ false → (h : Held) → Lies t.entries h.part → (lent : List ℕ)
      → Holds g t q r (filter (allowed_run g q) (k ∷ [])) h lent (Some h) lent
  unfolding good_runs
  hold_none k e h w lent =
      rw e (record {
        left = left_same h.count lent (and-true (good_entries g t.reg (entries_in t.entries h.part))) (append-nil (hits_in g t.reg q r (entries_in t.entries h.part)));
        lies = w;
        few = omega arith;
      })

  -- and one that is
  pub hold_one : (k : ℕ) → allowed_run g q k ≡ true → (h₀ : Held) (h : Option Held) (lent₀ lent : List ℕ)
      → Holds g t q r (k ∷ []) h₀ lent₀ h lent → Holds g t q r (filter (allowed_run g q) (k ∷ [])) h₀ lent₀ h lent
  hold_one k e h₀ h lent₀ lent p = rw e p

-- ---- all classes

module _ (g : Grid) (q : Point) (tile : ℕ) where
  -- the runs of a tile from a class on, and that of one class
  abbrev runs_from : ℕ → List ℕ
  runs_from class = filter (allowed_run g q) (from (16 * tile + class) (16 - class))

  abbrev one_run : ℕ → List ℕ
  one_run class = filter (allowed_run g q) ((16 * tile + class) ∷ [])

  runs_all : allowed_runs g q tile ≡ runs_from 0
  unfolding allowed_runs tile_runs
  runs_all = ap (λ (n : ℕ). filter (allowed_run g q) (from n 16)) (sym (add-zero (16 * tile)))

  runs_next : (class : ℕ) → class < 16 → runs_from class ≡ one_run class ++ runs_from (class + 1)
  runs_next class h =
      let e : 16 - class ≡ suc (16 - (class + 1)) = omega arith in
      let f : suc (16 * tile + class) ≡ 16 * tile + (class + 1) = omega arith in
      ap (λ (n : ℕ). filter (allowed_run g q) (from (16 * tile + class) n)) e
      ∙ ap (λ (n : ℕ). filter (allowed_run g q) ((16 * tile + class) ∷ from n (16 - (class + 1)))) f
      ∙ filter_append (allowed_run g q) ((16 * tile + class) ∷ []) (from (16 * tile + (class + 1)) (16 - (class + 1)))

  runs_none : (class : ℕ) → 16 ≤ class → runs_from class ≡ []
  runs_none class h = let e : 16 - class ≡ 0 = omega arith in ap (λ (n : ℕ). filter (allowed_run g q) (from (16 * tile + class) n)) e

-- what is held back and the runs from a class on are left
pub record TileLeft (g : Grid) (t : Tables) (q : Point) (r tile c₀ : ℕ) (lent₀ lent : List ℕ) (h : Held) (class : ℕ) : Type 0 where
  pub left : Left (keep_hit g t.reg q) (good_runs g t (allowed_runs g q tile)) (good_entries g t.reg (entries_in t.entries h.part) && good_runs g t (runs_from g q tile class))
      (hits_of g t q r (allowed_runs g q tile)) (hits_in g t.reg q r (entries_in t.entries h.part) ++ hits_of g t q r (runs_from g q tile class)) c₀ h.count lent₀ lent
  pub lies : Lies t.entries h.part
  pub few : h.count + (h.part.past - h.part.begin) ≤ c₀ + class * most_entries
  pub sized : length lent ≡ length lent₀
  pub most : class ≤ 16

module _ {g : Grid} {t : Tables} {q : Point} {r tile c₀ : ℕ} {lent₀ : List ℕ} where
  pub tile_all : TileLeft g t q r tile c₀ lent₀ lent₀ (held 0 0 c₀) 0
  tile_all = record {
    left = left_same c₀ lent₀ (ap (good_runs g t) (runs_all g q tile)) (ap (hits_of g t q r) (runs_all g q tile));
    lies = record { ordered = omega arith; inside = omega arith };
    few = omega arith;
    sized = refl;
    most = omega arith;
  }

  module _ {lent : List ℕ} {h : Held} {class : ℕ} (p : TileLeft g t q r tile c₀ lent₀ lent h class) where
    abbrev good_held : Bool
    good_held = good_entries g t.reg (entries_in t.entries h.part)

    abbrev hits_held : List ℕ
    hits_held = hits_in g t.reg q r (entries_in t.entries h.part)

    abbrev good_left : ℕ → Bool
    good_left k = good_runs g t (runs_from g q tile k)

    abbrev hits_left : ℕ → List ℕ
    hits_left k = hits_of g t q r (runs_from g q tile k)

    module _ (lt : class < 16) where
      good_next : (good_held && good_left class) ≡ ((good_held && good_runs g t (one_run g q tile class)) && good_left (class + 1))
      good_next =
          ap (λ (b : Bool). good_held && b) (ap (good_runs g t) (runs_next g q tile class lt) ∙ good_runs_append g t (one_run g q tile class) (runs_from g q tile (class + 1)))
          ∙ sym (and_assoc good_held (good_runs g t (one_run g q tile class)) (good_left (class + 1)))

      hits_next : hits_held ++ hits_left class ≡ (hits_held ++ hits_of g t q r (one_run g q tile class)) ++ hits_left (class + 1)
      hits_next =
          ap (λ (l : List ℕ). hits_held ++ l) (ap (hits_of g t q r) (runs_next g q tile class lt) ∙ hits_of_append g t q r (one_run g q tile class) (runs_from g q tile (class + 1)))
          ∙ sym (append_assoc hits_held (hits_of g t q r (one_run g q tile class)) (hits_left (class + 1)))

      pub tile_on : {lent' : List ℕ} {h' : Held} → Holds g t q r (one_run g q tile class) h lent (Some h') lent' → length lent' ≡ length lent
          → TileLeft g t q r tile c₀ lent₀ lent' h' (class + 1)
      tile_on s n = record {
        left = left_on (good_left (class + 1)) (hits_left (class + 1)) p.left good_next hits_next s.left;
        lies = s.lies;
        few = omega (arith, p.few, s.few);
        sized = n ∙ p.sized;
        most = omega arith;
      }

      pub tile_bad : good_behind g t (one_run g q tile class) h ≡ false → good_runs g t (allowed_runs g q tile) ≡ false
      tile_bad b = left_bad (good_left (class + 1)) p.left good_next b

    -- the part that is held back at the end is read
    pub tile_end : 16 ≤ class → (found : Option ℕ) (lent' : List ℕ)
        → JudgedEntries g t.reg q r (entries_in t.entries h.part) (h.part.past - h.part.begin) h.count lent found lent'
        → JudgedRuns g t q r (allowed_runs g q tile) tile_most c₀ lent₀ found lent'
    unfolding good_runs
    tile_end k None _ j = left_bad (good_left class) p.left refl j
    tile_end k (Some c) _ j = record {
      left = left_none (left_on (good_left class) (hits_left class) p.left refl refl j.left)
          (ap (good_runs g t) (runs_none g q tile class k)) (ap (hits_of g t q r) (runs_none g q tile class k));
      few = omega (arith, p.few, p.most, j.few);
    }
