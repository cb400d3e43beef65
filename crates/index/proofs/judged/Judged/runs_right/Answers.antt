-- `index::judged::Judged::runs_right` meets its contract: the chain asks of each run in turn, as the definition does. Assumes nothing.
use mathlib.Core.Path.{◌≡◌, refl, ap, ◌∙◌}
use mathlib.Core.Bool.{Bool, ◌&&◌}
use Prim.Native.Nat.{ℕ, zero, suc, ◌+◌, ◌-◌}
use native.Mathlib.Numerals.{add-one}
use native.Mathlib.Omega.{arith}
use Rattle.std.proofs.Common.{rules}
use Rattle.std.specs.List.{list_all, range_with_len}
use Rattle.std.proofs.lemmas.Iterator.{YieldsList-from_range}
use Rattle.std.proofs.lemmas.Iterator.Search.{all_from_yields_List}
use Rattle.laws.specs.Lists.{from, all}
use Rattle.rules.specs.Tables.{runs}
use Rattle.index.specs.Check.{run_right}
use Rattle.index.proofs.judged.Judged.runs_right.Goals as goal

range_all : (t : ℕ → Bool) (a n : ℕ) → list_all t (range_with_len a n) ≡ all t (from a n)
range_all t a zero = refl
range_all t a (suc n) = ap (λ (b : Bool). t a && b) (range_all t (a + 1) n ∙ ap (λ (i : ℕ). all t (from i n)) (add-one a))

pub returns : goal.returns
returns form c =
    let t = run_right c.args.self.now.g (form.F.Form.numbers c.args.self.now.reg.now) (form.F.Form.numbers c.args.starts.now) (form.F.Form.numbers c.args.entries.now) in
    all_from_yields_List t _ _ c.all.result c.all.ensures.ran
    (YieldsList-from_range 0 (c.count.result - 1) (runs c.args.self.now.g) refl (omega (arith, c.count.ensures, c.requires))) (λ k b q e. search rules)
    ∙ range_all t 0 (runs c.args.self.now.g)
