-- `join::judge::bad_side` meets its contract. Assumes nothing.
use mathlib.Core.Path.{◌≡◌, refl, ap, ◌∙◌}
use mathlib.Core.Bool.{Bool, not}
use Prim.Native.Nat.{ℕ, ◌+◌}
use lib.ListN.{length}
use Rattle.std.proofs.Common.{rules, tests}
use Rattle.std.proofs.lemmas.Iterator.{YieldsList-from_range}
use Rattle.std.proofs.lemmas.Iterator.Search.{any_from_yields_List}
use Rattle.std.specs.List.{list_any}
use Rattle.rules.specs.Tables.{Tables, runs as runs_of, good_run, good_runs}
use Rattle.join.proofs.Judging.{starts_length, any_not_good, counted_from}
use native.Mathlib.Omega.{arith}
use Rattle.join.proofs.judge.bad_side.Goals.{Start, After-any}
use Rattle.join.proofs.judge.bad_side.Goals as goal

pub overflow_sub-t-inside : goal.overflow_sub-t-inside
overflow_sub-t-inside c =
    let e : length c.t.inside.starts.now ≡ runs_of c.args.g + 1 = ap (λ (t : Tables). length t.starts) c.t.view_is ∙ starts_length c.args.g c.args.t.now.starts c.requires in
    omega arith

pub returns : goal.returns
unfolding good_runs
returns c =
    let e : length c.t.inside.starts.now ≡ runs_of c.args.g + 1 = ap (λ (t : Tables). length t.starts) c.t.view_is ∙ starts_length c.args.g c.args.t.now.starts c.requires in
    let bad : ℕ → Bool = λ k. not (good_run c.args.g c.args.t.now k) in
    any_from_yields_List bad _ _ _ c.any.ensures.ran (YieldsList-from_range 0 _ (runs_of c.args.g) refl (omega arith)) (λ x b q k. search (rules, tests))
    ∙ ap (list_any bad) (counted_from 0 (runs_of c.args.g))
    ∙ any_not_good (good_run c.args.g c.args.t.now) _
