-- `join::runs::Runs::of_entry` meets its contract: S's numbers one after the other, unless they are all too far. Assumes nothing.
use mathlib.Core.Path.{sym, ◌∙◌}
use mathlib.Core.List.{List}
use Prim.Native.Nat.{ℕ}
use Rattle.rules.specs.Join.{Pair}
use Rattle.join.specs.Keeping.{Kept, state, most_pairs}
use Rattle.join.proofs.Loops.{list_step, list_few, list_end}
use Rattle.join.specs.Levels.{one_pair, entry_pairs}
use Rattle.join.proofs.Sound.{entry_good}
use Rattle.join.proofs.Boxing.{in_own, entry_apart}
use Rattle.join.proofs.Levels.{keeps_none}
use native.Mathlib.Omega.{arith}
use Rattle.join.proofs.runs.Runs.of_entry.Goals.{At-loop-j, Start}
use Rattle.join.proofs.runs.Runs.of_entry.Goals as goal

-- what was kept before the loop, and what is kept at its head
abbrev first : Start → Kept
first c = state c.args.found.now.pairs c.args.found.now.out.now

abbrev here : At-loop-j → Kept
here c = state c.loop-j.found.pairs c.loop-j.found.out.now

-- the pairs of each turn
abbrev inner : Start → ℕ → List Pair
inner c = let s = c.args.self.now in one_pair s.g s.left.reg.now s.right.reg.now s.r c.args.self.now.left.no c.args.self.now.right.no c.args.i

pub returns-then-apart-clause-kept : goal.returns-then-apart-clause-kept
returns-then-apart-clause-kept c =
    let s = c.args.self.now in
    let a = c.footprint-a in
    keeps_none (first (goal.at.returns-then-apart-clause-kept c).Start)
    (entry_apart s.g s.left.reg.now s.right.reg.now s.r c.args.self.now.left.no c.args.self.now.right.no a.result c.args.self.now.right.around (sym c.apart.ensures ∙ c.if-apart.true)
    c.args.i c.args.self.now.right.entries.now (in_own s.g s.left.reg.now c.args.i a.result a.ensures.0) c.args.self.now.right_held.each_in)

pub of_two-requires : goal.of_two-requires
of_two-requires c =
    (c.footprint-a.ensures.0, c.footprint-a.ensures.1, entry_good c.args.self.now.g c.args.self.now.right.reg.now c.args.self.now.right.entries.now c.loop-j.j-index c.loop-j-test.true c.args.self.now.right_good, list_few (inner (goal.at.of_two-requires c).Start) c.args.self.now.right.entries.now (first (goal.at.of_two-requires c).Start) (here (goal.at.of_two-requires c).At-loop-j) c.loop-j.j-index most_pairs c.loop-j-test.true c.loop-j.invariant.1 (unfold entry_pairs in c.requires.1))

pub loop-j-preserved : goal.loop-j-preserved
loop-j-preserved c =
    (c.of_two.ensures.same_memory ∙ c.loop-j.invariant.0, list_step (inner (goal.at.loop-j-preserved c).Start) c.args.self.now.right.entries.now (first (goal.at.loop-j-preserved c).Start) (here (goal.at.loop-j-preserved c).At-loop-j) _ c.loop-j.j-index c.loop-j-test.true c.loop-j.invariant.1 c.of_two.ensures.kept)

pub returns-clause-kept : goal.returns-clause-kept
unfolding entry_pairs
returns-clause-kept c =
    list_end (inner (goal.at.returns-clause-kept c).Start) c.args.self.now.right.entries.now (first (goal.at.returns-clause-kept c).Start) (here (goal.at.returns-clause-kept c).At-loop-j) c.loop-j.j-index (omega arith) (omega arith) c.loop-j.invariant.1
