-- Questions printed one after the other: each one's own text, and what comes behind it unless it is refused. Assumes nothing.
use mathlib.Core.Path.{◌≡◌}
use mathlib.Core.Bool.{cond}
use mathlib.Core.List.{List, [], ◌++◌, append-nil}
use Prim.Native.Nat.{ℕ}
use lib.Dec.{eqb}
use Rattle.laws.proofs.Tests.{by_bool}
use Rattle.rules.specs.Refusals.{Paper}
use Rattle.rules.specs.Text.{answer_text}
use Rattle.rules.specs.declared.Grid.{Grid}
use Rattle.rules.specs.declared.Point.{Point}

pub in_turn : (g : Grid) (reg : List ℕ) (q : Point) (a : Paper × List ℕ) (behind : List ℕ)
    → answer_text g reg q a behind ≡ answer_text g reg q a [] ++ cond (eqb a.0.number 0) behind []
unfolding answer_text
in_turn g reg q a behind = by_bool (eqb a.0.number 0) (λ e. rw (e, append-nil)) (λ e. rw (e, append-nil))
