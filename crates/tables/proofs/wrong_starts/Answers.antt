-- `tables::wrong_starts` meets its contract: 16×n²+1 is judged by its remainder and its quotient. Assumes nothing.
use mathlib.Core.Path.{◌≡◌, sym, ap, ◌∙◌}
use mathlib.Core.Bool.{Bool, not, true}
use Prim.Native.Nat.{ℕ, ◌+◌, ◌-◌, ◌*◌, ◌/◌, ◌%◌}
use lib.Dec.{eqb}
use borrow.Author.Tests.{ne_eqb, eqb-true, not-false}
use Rattle.laws.proofs.Tests.{eqb_same, clash}
use Rattle.rules.specs.Sizes.{tile_count}
use Rattle.rules.specs.Tables.{runs}
use native.Mathlib.Omega.{arith}
use Rattle.tables.proofs.wrong_starts.Goals.{then-len-eq0, else-len-eq0}
use Rattle.tables.proofs.wrong_starts.Goals as goal

other : (l t : ℕ) → (l ≡ 16 * t + 1 → ⊥) → true ≡ not (eqb l (16 * t + 1))
other l t h = rw (ne_eqb l (16 * t + 1) h)

quotient : (l t : ℕ) → (l ≡ 0 → ⊥) → (l - 1) % 16 ≡ 0 → eqb ((l - 1) / 16) t ≡ eqb l (16 * t + 1)
quotient l t h k = eqb_same ((l - 1) / 16) t l (16 * t + 1) (λ e. omega arith) (λ e. omega arith)

-- a remainder that is not 0
remains : (l : ℕ) (b : Bool) → b ≡ not (eqb ((l - 1) % 16) 0) → b ≡ true → (l - 1) % 16 ≡ 0 → ⊥
remains l b e t z = clash (sym t ∙ e ∙ rw z)

pub returns-then-len-ne0 : goal.returns-then-len-ne0
unfolding runs
returns-then-len-ne0 c =
    c.if-len-ne0.true
    ∙ elim c.if-len-eq0.branch [
      | then-len-eq0 w ↦ other c.args.len (tile_count c.args.g) (λ e. omega (arith, w.if-len-eq0.true))
      | else-len-eq0 w ↦ other c.args.len (tile_count c.args.g) (λ e. remains c.args.len _ w.value-is c.if-len-ne0.true (omega arith))
    ]

pub returns-else-len-ne0 : goal.returns-else-len-ne0
unfolding runs
returns-else-len-ne0 c =
    elim c.if-len-eq0.branch [
      | then-len-eq0 w ↦ clash (sym (w.value-is ∙ rw w.if-len-eq0.true) ∙ c.if-len-ne0.false)
      | else-len-eq0 w ↦
          ap not (ap (λ (t : ℕ). eqb ((c.args.len - 1) / 16) t) c.tile_count.ensures
          ∙ quotient c.args.len (tile_count c.args.g) w.if-len-eq0.false (eqb-true _ 0 (not-false _ (sym w.value-is ∙ c.if-len-ne0.false))))
    ]
