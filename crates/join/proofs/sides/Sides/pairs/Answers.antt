-- `join::sides::Sides::pairs` meets its contract: R's tiles one after the other. Assumes nothing.
use mathlib.Core.Path.{◌≡◌, refl, sym, ap, ◌∙◌}
use mathlib.Core.List.{List}
use Prim.Native.Nat.{ℕ, ◌+◌, ◌≤◌, ◌<◌}
use lib.ListN.{length}
use Rattle.laws.specs.Lists.{up_to, each}
use Rattle.join.specs.Keeping.{Kept, state, kept, most_pairs}
use Rattle.join.proofs.Loops.{range_start, range_step, range_few, range_end}
use Rattle.rules.specs.Sizes.{tile_count}
use Rattle.rules.specs.Join.{Pair, join_pairs}
use Rattle.rules.proofs.JoinCount.{few_pairs}
use Rattle.join.specs.Levels.{around_pairs}
use Rattle.join.proofs.Sound.{tiles_most}
use Rattle.join.proofs.Levels.{join_pairs_law}
use native.Mathlib.Omega.{arith}
use Rattle.join.proofs.sides.Sides.pairs.Goals.{After-loop-t, At-loop-t, In-loop-t, Start}
use Rattle.join.proofs.sides.Sides.pairs.Goals as goal

-- what was kept before the loop, and what is kept at its head
abbrev first : Start → Kept
first c = state 0 c.args.out.now

abbrev here : At-loop-t → Kept
here c = state c.loop-t.found.pairs c.loop-t.found.out.now

-- the pairs of each turn, and of all of them, which are few enough to count
abbrev inner : Start → ℕ → List Pair
inner c = let s = c.args.self.now in around_pairs s.g s.left s.right s.r

whole : (c : Start) → let s = c.args.self.now in join_pairs s.g s.left s.right s.r ≡ each (inner c) (up_to (tile_count s.g))
whole c = let s = c.args.self.now in join_pairs_law s.g s.left s.right s.r

few : (c : Start) → let s = c.args.self.now in 0 + length (join_pairs s.g s.left s.right s.r) ≤ most_pairs
few c = let s = c.args.self.now in omega (arith, few_pairs s.g s.left s.right s.r s.judged.of_r.all_good s.judged.of_s.all_good)

below : (c : In-loop-t) → c.loop-t.t < tile_count c.args.self.now.g
unfolding tile_count
below c = c.loop-t-test.true

above : (c : After-loop-t) → tile_count c.args.self.now.g ≤ c.loop-t.t
unfolding tile_count
above c = c.loop-t-test.false

pub overflow_mul-t-end : goal.overflow_mul-t-end
unfolding tile_count
overflow_mul-t-end c = omega (arith, tiles_most c.args.self.now.g c.args.self.now.judged.sizes)

pub loop-t-init : goal.loop-t-init
loop-t-init c = (refl, range_start (inner (goal.at.loop-t-init c).Start) (tile_count c.args.self.now.g) (first (goal.at.loop-t-init c).Start))

pub of_tile-requires : goal.of_tile-requires
of_tile-requires c =
    let start = (goal.at.of_tile-requires c).Start in
    let on_grid = below (goal.at.of_tile-requires c).In-loop-t in
    (on_grid, range_few (inner start) (tile_count c.args.self.now.g) (first start) (here (goal.at.of_tile-requires c).At-loop-t) c.loop-t.t most_pairs on_grid c.loop-t.invariant.1 (rw (whole start) at (few start)))

pub loop-t-preserved : goal.loop-t-preserved
loop-t-preserved c =
    (c.of_tile.ensures.same_memory ∙ c.loop-t.invariant.0, range_step (inner (goal.at.loop-t-preserved c).Start) (tile_count c.args.self.now.g) (first (goal.at.loop-t-preserved c).Start) (here (goal.at.loop-t-preserved c).At-loop-t) _ c.loop-t.t (below (goal.at.loop-t-preserved c).In-loop-t) c.loop-t.invariant.1 c.of_tile.ensures.kept)

pub returns : goal.returns
returns c =
    let all = range_end (inner (goal.at.returns c).Start) (tile_count c.args.self.now.g) (first (goal.at.returns c).Start) (here (goal.at.returns c).At-loop-t) c.loop-t.t (above (goal.at.returns c).After-loop-t) c.loop-t.invariant.1 ∙ ap (kept (first (goal.at.returns c).Start)) (sym (whole (goal.at.returns c).Start)) in
    grind (arith, all, c.loop-t.invariant.0)
