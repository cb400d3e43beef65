-- `join::runs::Runs::pairs` meets its contract: R's numbers one after the other, unless the runs are too far apart. Assumes nothing.
use mathlib.Core.Path.{sym, ◌∙◌}
use mathlib.Core.List.{List}
use Prim.Native.Nat.{ℕ}
use Rattle.rules.specs.Join.{Pair}
use Rattle.join.specs.Keeping.{Kept, state, most_pairs}
use Rattle.join.proofs.Loops.{list_step, list_few, list_end}
use Rattle.join.specs.Levels.{entry_pairs, runs_pairs}
use Rattle.join.proofs.Sound.{entry_good}
use Rattle.join.proofs.Boxing.{runs_apart}
use Rattle.join.proofs.Levels.{keeps_none}
use native.Mathlib.Omega.{arith}
use Rattle.join.proofs.runs.Runs.pairs.Goals.{At-loop-i, Start}
use Rattle.join.proofs.runs.Runs.pairs.Goals as goal

-- what was kept before the loop, and what is kept at its head
abbrev first : Start → Kept
first c = state c.args.found.now.pairs c.args.found.now.out.now

abbrev here : At-loop-i → Kept
here c = state c.loop-i.found.pairs c.loop-i.found.out.now

-- the pairs of each turn
abbrev inner : Start → ℕ → List Pair
inner c i = let s = c.args.self.now in entry_pairs s.g s.left.reg.now s.right.reg.now s.r c.args.self.now.left.no c.args.self.now.right.no i c.args.self.now.right.entries.now

pub returns-then-apart-clause-kept : goal.returns-then-apart-clause-kept
returns-then-apart-clause-kept c =
    let s = c.args.self.now in
    keeps_none (first (goal.at.returns-then-apart-clause-kept c).Start)
    (runs_apart s.g s.left.reg.now s.right.reg.now s.r c.args.self.now.left.no c.args.self.now.right.no c.args.self.now.left.around c.args.self.now.right.around (sym c.apart.ensures ∙ c.if-apart.true)
    c.args.self.now.left.entries.now c.args.self.now.right.entries.now c.args.self.now.left_held.each_in c.args.self.now.right_held.each_in)

pub of_entry-requires : goal.of_entry-requires
of_entry-requires c =
    (entry_good c.args.self.now.g c.args.self.now.left.reg.now c.args.self.now.left.entries.now c.loop-i.i-index c.loop-i-test.true c.args.self.now.left_good, list_few (inner (goal.at.of_entry-requires c).Start) c.args.self.now.left.entries.now (first (goal.at.of_entry-requires c).Start) (here (goal.at.of_entry-requires c).At-loop-i) c.loop-i.i-index most_pairs c.loop-i-test.true c.loop-i.invariant.1 (unfold runs_pairs in c.requires))

pub loop-i-preserved : goal.loop-i-preserved
loop-i-preserved c =
    (c.of_entry.ensures.same_memory ∙ c.loop-i.invariant.0, list_step (inner (goal.at.loop-i-preserved c).Start) c.args.self.now.left.entries.now (first (goal.at.loop-i-preserved c).Start) (here (goal.at.loop-i-preserved c).At-loop-i) _ c.loop-i.i-index c.loop-i-test.true c.loop-i.invariant.1 c.of_entry.ensures.kept)

pub returns-clause-kept : goal.returns-clause-kept
unfolding runs_pairs
returns-clause-kept c =
    list_end (inner (goal.at.returns-clause-kept c).Start) c.args.self.now.left.entries.now (first (goal.at.returns-clause-kept c).Start) (here (goal.at.returns-clause-kept c).At-loop-i) c.loop-i.i-index (omega arith) (omega arith) c.loop-i.invariant.1
