-- `join::sides::Sides::of_tile` meets its contract: the nine positions one after the other, unless the tile has no entries. Assumes nothing.
use mathlib.Core.Path.{◌≡◌, refl, sym, ap, ◌∙◌}
use mathlib.Core.List.{List}
use Prim.Native.Nat.{ℕ}
use Rattle.laws.specs.Lists.{up_to, each}
use Rattle.join.specs.Keeping.{Kept, state, kept, most_pairs}
use Rattle.join.proofs.Loops.{range_start, range_step, range_few, range_end}
use Rattle.rules.specs.Join.{Pair}
use Rattle.join.specs.Levels.{pairs_at, around_pairs}
use Rattle.join.proofs.Sound.{tile_below}
use Rattle.join.proofs.Levels.{around_pairs_law, keeps_none}
use Rattle.join.proofs.BareTiles.{tile_stands, bare_around}
use native.Mathlib.Omega.{arith}
use Rattle.join.proofs.sides.Sides.of_tile.Goals.{At-loop-p, Start}
use Rattle.join.proofs.sides.Sides.of_tile.Goals as goal

-- what was kept before the loop, and what is kept at its head
abbrev first : Start → Kept
first c = state c.args.found.now.pairs c.args.found.now.out.now

abbrev here : At-loop-p → Kept
here c = state c.loop-p.found.pairs c.loop-p.found.out.now

-- the pairs of each turn, and of all of them
abbrev inner : Start → ℕ → List Pair
inner c = let s = c.args.self.now in pairs_at s.g s.left s.right s.r c.args.t

whole : (c : Start) → let s = c.args.self.now in around_pairs s.g s.left s.right s.r c.args.t ≡ each (inner c) (up_to 9)
whole c = let s = c.args.self.now in around_pairs_law s.g s.judged.sizes s.left s.right s.r c.args.t c.requires.0

pub is_bare-requires : goal.is_bare-requires
is_bare-requires c =
    let s = c.args.self.now in
    (tile_below s.g c.args.t s.judged.sizes c.requires.0, tile_stands s.g s.left s.judged.of_r c.args.t c.requires.0)

pub returns-then-is_bare-clause-kept : goal.returns-then-is_bare-clause-kept
returns-then-is_bare-clause-kept c =
    let s = c.args.self.now in
    keeps_none (state c.args.found.now.pairs c.args.found.now.out.now) (bare_around s.g s.left s.right s.judged s.r c.args.t c.requires.0 (sym c.is_bare.ensures ∙ c.if-is_bare.true))

pub loop-p-init : goal.loop-p-init
loop-p-init c = (refl, range_start (inner (goal.at.loop-p-init c).Start) 9 (first (goal.at.loop-p-init c).Start))

pub of_position-requires : goal.of_position-requires
of_position-requires c =
    let start = (goal.at.of_position-requires c).Start in
    (c.requires.0, omega arith, range_few (inner start) 9 (first start) (here (goal.at.of_position-requires c).At-loop-p) c.loop-p.p most_pairs (omega arith) c.loop-p.invariant.1 (rw (whole start) at c.requires.1))

pub loop-p-preserved : goal.loop-p-preserved
loop-p-preserved c =
    (c.of_position.ensures.same_memory ∙ c.loop-p.invariant.0, range_step (inner (goal.at.loop-p-preserved c).Start) 9 (first (goal.at.loop-p-preserved c).Start) (here (goal.at.loop-p-preserved c).At-loop-p) _ c.loop-p.p (omega arith) c.loop-p.invariant.1 c.of_position.ensures.kept)

pub returns-clause-kept : goal.returns-clause-kept
returns-clause-kept c =
    range_end (inner (goal.at.returns-clause-kept c).Start) 9 (first (goal.at.returns-clause-kept c).Start) (here (goal.at.returns-clause-kept c).At-loop-p) c.loop-p.p (omega arith) c.loop-p.invariant.1 ∙ ap (kept (first (goal.at.returns-clause-kept c).Start)) (sym (whole (goal.at.returns-clause-kept c).Start))
