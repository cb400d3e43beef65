-- What a search reads: the runs as one filter of all runs, and that a tile which is not visited hides no hit. Assumes nothing.
use mathlib.Core.Path.{◌≡◌, sym, ap, ◌∙◌}
use mathlib.Core.Bool.{Bool, true, false, ◌&&◌}
use mathlib.Core.List.{Memᴰ}
use Prim.Native.Nat.{ℕ, ◌/◌, ◌<◌}
use native.Mathlib.Nat.{le_trans}
use native.Mathlib.Omega.{arith}
use lib.Dec.{eqb}
use borrow.Author.Tests.{leb-true, le-leb, eqb-true}
use Rattle.laws.specs.Lists.{filter, up_to}
use Rattle.laws.proofs.Blocks.{blocks}
use Rattle.laws.proofs.Members.{mem_filter}
use Rattle.laws.proofs.Ranges.{mem_from}
use Rattle.laws.proofs.Tests.{by_bool, clash}
use Rattle.rules.specs.Sizes.{tile_count, tiles}
use Rattle.rules.specs.Distance.{within, point}
use Rattle.rules.specs.Classes.{report_tile}
use Rattle.rules.specs.Tables.{runs, tile_runs}
use Rattle.rules.specs.Search.{allowed_run, allowed_runs, visits, visited, read_runs}
use Rattle.rules.specs.declared.Grid.{Grid}
use Rattle.rules.specs.declared.Point.{Point}
use Rattle.rules.specs.declared.Rect.{Rect}
use Rattle.rules.proofs.Good.{GoodRect}
use Rattle.rules.proofs.Report.{report_near}

module _ (g : Grid) (q : Point) (r : ℕ) where
  -- run k is read: its tile is visited, its class allowed there
  unfoldable pub reads : ℕ → Bool
  reads k = visits g q r (k / 16) && allowed_run g q k

  pub read_runs_are : read_runs g q r ≡ filter reads (up_to (runs g))
  unfolding read_runs allowed_runs visited tiles tile_runs runs reads
  read_runs_are = blocks (visits g q r) (allowed_run g q) (tile_count g)

  pub read_below : (k : ℕ) → Memᴰ k (read_runs g q r) → k < runs g
  read_below k m = let l = mem_from 0 (runs g) (mem_filter reads (up_to (runs g)) (rw read_runs_are at m)).0 in omega arith

  module _ (pos : 0 < g.side) (a : Rect) (ok : GoodRect g a) where
    -- what lies within r is reported by a tile that is visited
    pub reporting_is_visited : within r (point q) a ≡ true → visits g q r (report_tile g q a) ≡ true
    unfolding visits within
    reporting_is_visited e = le-leb _ _ (le_trans (report_near g pos q a ok) (leb-true _ _ e))

    -- so a tile that is not visited is too far to hide a hit
    pub unvisited_is_far : (t : ℕ) → visits g q r t ≡ false → eqb t (report_tile g q a) ≡ true → within r (point q) a ≡ false
    unvisited_is_far t f e =
        by_bool (within r (point q) a)
        (λ w. clash (sym (reporting_is_visited w) ∙ ap (visits g q r) (sym (eqb-true t (report_tile g q a) e)) ∙ f))
        (λ w. w)
