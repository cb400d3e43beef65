-- `join::tiles::Tiles::of_class` meets its contract: S's classes one after the other, unless R's run is empty. Assumes nothing.
use mathlib.Core.Path.{◌≡◌, refl, sym, ap, ◌∙◌}
use mathlib.Core.List.{List}
use Prim.Native.Nat.{ℕ}
use Rattle.std.proofs.Common.{rules}
use Rattle.laws.specs.Lists.{up_to, each}
use Rattle.join.specs.Keeping.{Kept, state, kept, most_pairs}
use Rattle.join.proofs.Loops.{range_start, range_step, range_few, range_end}
use Rattle.rules.specs.Tables.{run_at}
use Rattle.rules.specs.Join.{Pair, class_pairs}
use Rattle.join.specs.Levels.{marked_pairs}
use Rattle.join.proofs.Sound.{tile_below, class_ends, class_entries}
use Rattle.join.proofs.Levels.{class_pairs_law, class_empty, keeps_none}
use native.Mathlib.Omega.{arith}
use Rattle.join.proofs.tiles.Tiles.of_class.Goals.{After-new-left, At-loop-b, Start}
use Rattle.join.proofs.tiles.Tiles.of_class.Goals as goal

-- what was kept before the loop, and what is kept at its head
abbrev first : Start → Kept
first c = state c.args.found.now.pairs c.args.found.now.out.now

abbrev here : At-loop-b → Kept
here c = state c.loop-b.found.pairs c.loop-b.found.out.now

-- the pairs of each turn, and of all of them
abbrev inner : After-new-left → ℕ → List Pair
inner c = let s = c.args.self.now.of.now in marked_pairs s.g s.left.reg s.right s.r c.args.self.now.t c.args.self.now.u c.args.a c.new-left.result.entries.now

abbrev all-pairs : After-new-left → List Pair
all-pairs c = let s = c.args.self.now.of.now in class_pairs s.g s.left s.right s.r c.args.self.now.t c.args.self.now.u c.args.a

whole : (c : After-new-left) → all-pairs c ≡ each (inner c) (up_to 16)
whole c =
    let s = c.args.self.now.of.now in
    class_pairs_law s.g s.judged.sizes s.left s.right s.r c.args.self.now.t c.args.self.now.u c.args.a c.new-left.result.entries.now (c.new-left.ensures.entries ∙ ap (run_at s.left) c.run_no-no.ensures)

pub run_no-no-requires : goal.run_no-no-requires
run_no-no-requires c = (tile_below c.args.self.now.of.now.g c.args.self.now.t c.args.self.now.of.now.judged.sizes c.args.self.now.t_on_grid, c.requires.0)

pub run-entries-requires : goal.run-entries-requires
run-entries-requires c =
    let s = c.args.self.now.of.now in
    class_ends s.g s.left s.judged.of_r c.args.self.now.t c.args.a c.run_no-no.result c.args.self.now.t_on_grid c.requires.0 c.run_no-no.ensures

pub returns-then-is_empty-clause-kept : goal.returns-then-is_empty-clause-kept
returns-then-is_empty-clause-kept c =
    let s = c.args.self.now.of.now in
    keeps_none (first (goal.at.returns-then-is_empty-clause-kept c).Start)
    (class_empty s.g s.judged.sizes s.left s.right s.r c.args.self.now.t c.args.self.now.u c.args.a c.run-entries.result.now (c.run-entries.ensures ∙ ap (run_at s.left) c.run_no-no.ensures) (search rules))

pub new-left-requires : goal.new-left-requires
new-left-requires c =
    let s = c.args.self.now.of.now in
    (s.judged.sizes, c.run-entries.ensures, class_entries s.g s.left s.judged.of_r c.args.self.now.t c.args.a c.run_no-no.result c.args.self.now.t_on_grid c.requires.0 c.run_no-no.ensures c.run-entries.result.now c.run-entries.ensures, search rules)

pub loop-b-init : goal.loop-b-init
loop-b-init c = (refl, range_start (inner (goal.at.loop-b-init c).After-new-left) 16 (first (goal.at.loop-b-init c).Start))

pub of_marked-requires : goal.of_marked-requires
of_marked-requires c =
    let start = (goal.at.of_marked-requires c).Start in
    let left = (goal.at.of_marked-requires c).After-new-left in
    (rw (← c.run_no-no.ensures) c.new-left.ensures, c.requires.0, omega arith, range_few (inner left) 16 (first start) (here (goal.at.of_marked-requires c).At-loop-b) c.loop-b.b most_pairs (omega arith) c.loop-b.invariant.1 (rw (whole left) at c.requires.1))

pub loop-b-preserved : goal.loop-b-preserved
loop-b-preserved c =
    (c.of_marked.ensures.same_memory ∙ c.loop-b.invariant.0, range_step (inner (goal.at.loop-b-preserved c).After-new-left) 16 (first (goal.at.loop-b-preserved c).Start) (here (goal.at.loop-b-preserved c).At-loop-b) _ c.loop-b.b (omega arith) c.loop-b.invariant.1 c.of_marked.ensures.kept)

pub returns-clause-kept : goal.returns-clause-kept
returns-clause-kept c =
    range_end (inner (goal.at.returns-clause-kept c).After-new-left) 16 (first (goal.at.returns-clause-kept c).Start) (here (goal.at.returns-clause-kept c).At-loop-b) c.loop-b.b (omega arith) c.loop-b.invariant.1
    ∙ ap (kept (first (goal.at.returns-clause-kept c).Start)) (sym (whole (goal.at.returns-clause-kept c).After-new-left))
