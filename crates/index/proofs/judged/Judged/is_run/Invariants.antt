-- `index::judged::Judged::is_run` meets its contract: one pass that stops at the first entry that is not right. Assumes nothing.
use mathlib.Core.Bool.{Bool}
use mathlib.Core.List.{List}
use Prim.Native.Nat.{ℕ}
use Rattle.laws.specs.Rising.{below}
use Rattle.laws.proofs.Scans.{Rises}
use Rattle.rules.specs.Register.{count}
use Rattle.rules.specs.Tables.{stands}
use Rattle.rules.specs.declared.Grid.{Grid}
use Rattle.index.proofs.judged.Judged.is_run.Given as goal

abbrev pub passes : Grid → List ℕ → ℕ → ℕ → Bool
passes g reg k = below (count reg) (stands g reg k)

abbrev pub invariant-loop-j : goal.invariant-loop-j
invariant-loop-j form l = Rises (passes l.self.g (form.F.Form.numbers l.self.reg.now) l.k) (form.F.Form.numbers l.run) l.least l.j
