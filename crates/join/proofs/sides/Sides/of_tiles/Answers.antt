-- `join::sides::Sides::of_tiles` meets its contract: R's classes one after the other, unless S's tile has no entries. Assumes nothing.
use mathlib.Core.Path.{◌≡◌, refl, sym, ap, ◌∙◌}
use mathlib.Core.List.{List}
use Prim.Native.Nat.{ℕ}
use Rattle.laws.specs.Lists.{up_to, each}
use Rattle.join.specs.Keeping.{Kept, state, kept, most_pairs}
use Rattle.join.proofs.Loops.{range_start, range_step, range_few, range_end}
use Rattle.rules.specs.Join.{Pair, class_pairs, tile_pairs}
use Rattle.rules.proofs.Good.{good_sizes}
use Rattle.join.proofs.Sound.{tile_below}
use Rattle.join.proofs.Levels.{tile_pairs_law, keeps_none}
use Rattle.join.proofs.BareTiles.{tile_stands, bare_of_s}
use native.Mathlib.Omega.{arith}
use Rattle.join.proofs.sides.Sides.of_tiles.Goals.{At-loop-a, Start}
use Rattle.join.proofs.sides.Sides.of_tiles.Goals as goal

-- what was kept before the loop, and what is kept at its head
abbrev first : Start → Kept
first c = state c.args.found.now.pairs c.args.found.now.out.now

abbrev here : At-loop-a → Kept
here c = state c.loop-a.found.pairs c.loop-a.found.out.now

-- the pairs of each turn, and of all of them
abbrev inner : Start → ℕ → List Pair
inner c = let s = c.args.self.now in class_pairs s.g s.left s.right s.r c.args.t c.args.u

whole : (c : Start) → let s = c.args.self.now in tile_pairs s.g s.left s.right s.r c.args.t c.args.u ≡ each (inner c) (up_to 16)
whole c = let s = c.args.self.now in tile_pairs_law s.g s.left s.right s.r c.args.t c.args.u

pub is_bare-requires : goal.is_bare-requires
is_bare-requires c =
    let s = c.args.self.now in
    (tile_below s.g c.args.u s.judged.sizes c.requires.1, tile_stands s.g s.right s.judged.of_s c.args.u c.requires.1)

pub returns-then-is_bare-clause-kept : goal.returns-then-is_bare-clause-kept
returns-then-is_bare-clause-kept c =
    let s = c.args.self.now in
    keeps_none (state c.args.found.now.pairs c.args.found.now.out.now) (bare_of_s s.g s.left s.right s.judged s.r c.args.t c.args.u c.requires.1 (sym c.is_bare.ensures ∙ c.if-is_bare.true))

pub position-p-requires : goal.position-p-requires
position-p-requires c = (good_sizes c.args.self.now.g c.args.self.now.judged.sizes).n_pos

pub loop-a-init : goal.loop-a-init
loop-a-init c = (refl, range_start (inner (goal.at.loop-a-init c).Start) 16 (first (goal.at.loop-a-init c).Start))

pub of_class-requires : goal.of_class-requires
of_class-requires c =
    let start = (goal.at.of_class-requires c).Start in
    (omega arith, range_few (inner start) 16 (first start) (here (goal.at.of_class-requires c).At-loop-a) c.loop-a.a most_pairs (omega arith) c.loop-a.invariant.1 (rw (whole start) at c.requires.2))

pub loop-a-preserved : goal.loop-a-preserved
loop-a-preserved c =
    (c.of_class.ensures.same_memory ∙ c.loop-a.invariant.0, range_step (inner (goal.at.loop-a-preserved c).Start) 16 (first (goal.at.loop-a-preserved c).Start) (here (goal.at.loop-a-preserved c).At-loop-a) _ c.loop-a.a (omega arith) c.loop-a.invariant.1 c.of_class.ensures.kept)

pub returns-clause-kept : goal.returns-clause-kept
returns-clause-kept c =
    range_end (inner (goal.at.returns-clause-kept c).Start) 16 (first (goal.at.returns-clause-kept c).Start) (here (goal.at.returns-clause-kept c).At-loop-a) c.loop-a.a (omega arith) c.loop-a.invariant.1 ∙ ap (kept (first (goal.at.returns-clause-kept c).Start)) (sym (whole (goal.at.returns-clause-kept c).Start))
