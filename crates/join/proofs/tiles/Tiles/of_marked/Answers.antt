-- `join::tiles::Tiles::of_marked` meets its contract: an empty run of S has no pairs, else the mark at the position of two tiles is the join's rule for them. Assumes nothing.
use mathlib.Core.Path.{◌≡◌, sym, ap, ◌∙◌}
use Rattle.std.proofs.Common.{rules}
use Rattle.rules.specs.Tables.{run_at}
use Rattle.join.specs.Keeping.{state, kept}
use Rattle.join.specs.Levels.{marked_pairs, runs_pairs}
use Rattle.join.proofs.Sound.{tile_below, class_ends, class_entries}
use Rattle.join.proofs.Levels.{mark_at, marked_pairs_law, unmarked_pairs, no_entries, keeps_none}
use Rattle.join.proofs.tiles.Tiles.of_marked.Goals.{After-new-right, then-is_empty-via-then-is_empty, then-is_empty-via-else-is_empty+then-not-is_on}
use Rattle.join.proofs.tiles.Tiles.of_marked.Goals as goal

-- the pairs of the two runs
whole : (c : After-new-right)
    → let s = c.args.self.now.of.now in
    marked_pairs s.g s.left.reg s.right s.r c.args.self.now.t c.args.self.now.u c.args.a c.args.left.now.entries.now c.args.b
    ≡ runs_pairs s.g c.args.left.now.reg.now c.new-right.result.reg.now s.r c.args.left.now.no c.new-right.result.no c.args.left.now.entries.now c.new-right.result.entries.now
whole c =
    let s = c.args.self.now.of.now in
    let here = c.args.self.now in
    let right = c.new-right in
    marked_pairs_law s.g s.left.reg s.right s.r here.t here.u c.args.a c.args.left.now.entries.now c.args.b
    c.args.left.now.no right.result.no c.args.left.now.reg.now right.result.reg.now right.result.entries.now
    (sym (c.is_on.ensures ∙ mark_at s.g here.t here.u c.args.a c.args.b here.p _ here.placed c.marks_of.ensures) ∙ c.if-not-is_on.false)
    c.requires.0.register c.requires.0.numbered right.ensures.register (right.ensures.numbered ∙ c.run_no-no.ensures) (right.ensures.entries ∙ ap (run_at s.right) c.run_no-no.ensures)

pub run_no-no-requires : goal.run_no-no-requires
run_no-no-requires c = (tile_below c.args.self.now.of.now.g c.args.self.now.u c.args.self.now.of.now.judged.sizes c.args.self.now.u_on_grid, c.requires.2)

pub run-entries-requires : goal.run-entries-requires
run-entries-requires c =
    let s = c.args.self.now.of.now in
    class_ends s.g s.right s.judged.of_s c.args.self.now.u c.args.b c.run_no-no.result c.args.self.now.u_on_grid c.requires.2 c.run_no-no.ensures

pub returns-then-is_empty-clause-kept : goal.returns-then-is_empty-clause-kept
returns-then-is_empty-clause-kept c =
    let s = c.args.self.now.of.now in
    let here = c.args.self.now in
    elim c.then-is_empty.branch [
      | then-is_empty-via-then-is_empty w ↦
          keeps_none (state c.args.found.now.pairs c.args.found.now.out.now)
          (no_entries s.g s.left.reg s.right s.r here.t here.u c.args.a c.args.left.now.entries.now c.args.b
          c.run_no-no.result c.run-entries.result.now c.run_no-no.ensures c.run-entries.ensures (search rules))
      | then-is_empty-via-else-is_empty+then-not-is_on w ↦
          keeps_none (state c.args.found.now.pairs c.args.found.now.out.now)
          (unmarked_pairs s.g s.left.reg s.right s.r here.t here.u c.args.a c.args.left.now.entries.now c.args.b
          (sym (w.is_on.ensures ∙ mark_at s.g here.t here.u c.args.a c.args.b here.p _ here.placed w.marks_of.ensures) ∙ w.if-not-is_on.true))
    ]

pub new-right-requires : goal.new-right-requires
new-right-requires c =
    let s = c.args.self.now.of.now in
    (s.judged.sizes, c.run-entries.ensures, class_entries s.g s.right s.judged.of_s c.args.self.now.u c.args.b c.run_no-no.result c.args.self.now.u_on_grid c.requires.2 c.run_no-no.ensures c.run-entries.result.now c.run-entries.ensures, search rules)

pub pairs-requires : goal.pairs-requires
pairs-requires c = rw (← whole (goal.at.pairs-requires c).After-new-right) c.requires.3

pub returns-clause-kept : goal.returns-clause-kept
returns-clause-kept c = c.pairs.ensures.kept ∙ ap (kept (state c.args.found.now.pairs c.args.found.now.out.now)) (sym (whole (goal.at.returns-clause-kept c).After-new-right))
