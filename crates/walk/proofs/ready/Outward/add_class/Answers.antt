-- `walk::ready::Outward::add_class` meets its contract. Assumes nothing.
use mathlib.Core.Path.{◌≡◌, refl, sym, ap, ◌∙◌}
use mathlib.Core.Bool.{true}
use mathlib.Core.List.{List, [], ◌∷◌}
use Prim.Native.Nat.{ℕ, ◌+◌, ◌*◌, ◌≤◌}
use lib.ListN.{get_or, length}
use Rattle.laws.specs.Lists.{part}
use Rattle.rules.specs.Tables.{run_start, run_end, good_runs}
use Rattle.walk.specs.Fill.{stands, add_all}
use Rattle.tables.specs.Entries.{good_entries}
use Rattle.walk.specs.Reading.{run_rows}
use Rattle.walk.proofs.Adding.{refilled}
use Rattle.walk.proofs.Judging.{run_good, one_run_law}
use Rattle.walk.proofs.Classes.{run_of, class_on, class_off}
use Rattle.walk.proofs.ready.Outward.add_class.Goals.{Else-not-is_on}
use Rattle.walk.specs.Outward.{lent_by}
use Rattle.walk.proofs.ready.Outward.add_class.Goals as goal

-- the run that the mask allows
run : (c : Else-not-is_on) → (16 * c.args.tile + c.args.class) ∷ [] ≡ run_of c.args.tile c.args.mask c.args.class
run c = let a = c.args in class_on a.tile a.mask a.class _ (sym c.is_on.ensures ∙ c.if-not-is_on.false) refl

good : (c : Else-not-is_on) → let a = c.args in let k = 16 * a.tile + a.class in let begin = get_or a.self.now.starts.now k 0 in let past = get_or a.self.now.starts.now (k + 1) 0 in
    (begin ≤ past) × (past ≤ length a.self.now.entries.now) × (good_entries a.self.now.g a.self.now.reg.now (part a.self.now.entries.now begin past) ≡ true)
unfolding run_start run_end
good c =
    let a = c.args in
    let lent = lent_by a.self.now in
    run_good a.self.now.g lent (16 * a.tile + a.class) _ _ refl refl (ap (good_runs a.self.now.g lent) (run c) ∙ c.requires.no_damage)

pub returns-then-not-is_on : goal.returns-then-not-is_on
unfolding add_all
returns-then-not-is_on c =
    let a = c.args in
    let lent = lent_by a.self.now in
    let s = stands a.front.now a.batch.now a.f in
    record { safe = c.requires.safe; is = ap (λ (l : List ℕ). add_all s (run_rows a.self.now.g lent a.self.now.q l)) (class_off a.tile a.mask a.class (sym c.is_on.ensures ∙ c.if-not-is_on.true)) }

pub slice_bounds-run-count : goal.slice_bounds-run-count
slice_bounds-run-count c = (good (goal.at.slice_bounds-run-count c).Else-not-is_on).0

pub slice_bounds-run-start : goal.slice_bounds-run-start
slice_bounds-run-start c = (good (goal.at.slice_bounds-run-start c).Else-not-is_on).0

pub slice_bounds-run-end : goal.slice_bounds-run-end
slice_bounds-run-end c = (good (goal.at.slice_bounds-run-end c).Else-not-is_on).1

pub add_entries-requires-clause-may_stand : goal.add_entries-requires-clause-may_stand
add_entries-requires-clause-may_stand c = (good (goal.at.add_entries-requires-clause-may_stand c).Else-not-is_on).2

pub returns : goal.returns
unfolding run_start run_end
returns c =
    let a = c.args in
    let add = c.add_entries in
    let lent = lent_by a.self.now in
    let s = stands a.front.now a.batch.now a.f in
    refilled add.new.front add.new.batch add.result _ _ add.ensures
    (ap (add_all s) (one_run_law a.self.now.g lent a.self.now.q (16 * a.tile + a.class) _ _ refl refl ∙ ap (run_rows a.self.now.g lent a.self.now.q) (run (goal.at.returns c).Else-not-is_on)))
