-- `tables::register::footprint` meets its contract: its four numbers stand in the register. Assumes nothing.
use mathlib.Core.Path.{ap₂}
use Prim.Native.Nat.{ℕ, ◌+◌, ◌*◌, ◌≤◌, ◌<◌, ◌^◌}
use native.Mathlib.Nat.{add-zero}
use native.Mathlib.Omega.{arith}
use lib.ListN.{length}
use Rattle.rules.specs.Register.{recorded, rectangle}
use Rattle.rules.specs.declared.Span.{Span}
use Rattle.tables.proofs.Footprints.{four_stand}
-- its four numbers stand in the register, and their places fit
use Rattle.tables.proofs.register.footprint.Goals.{Start}
use Rattle.tables.proofs.register.footprint.Given as given
use Rattle.tables.proofs.register.footprint.Goals as goal

inside : (g : given.Over) (c : Start g) → (4 * c.args.i + 4 ≤ length (g.F.Form.numbers c.args.reg.now)) × (4 * c.args.i + 4 < 2 ^ 64)
inside g c =
    let n = g.met.F.Form.at_most c.args.reg.now in
    let f = four_stand (g.F.Form.numbers c.args.reg.now) c.args.i c.requires in
    (f, omega (arith, c.well_formed.1.0))

pub overflow_mul-i : goal.overflow_mul-i
overflow_mul-i g c = omega (arith, inside g (goal.at.overflow_mul-i g c).Start)

pub get-requires : goal.get-requires
get-requires g c = omega (arith, inside g (goal.at.get-requires g c).Start)

pub overflow_mul-i-2 : goal.overflow_mul-i-2
overflow_mul-i-2 g c = omega (arith, inside g (goal.at.overflow_mul-i-2 g c).Start)

pub overflow_add-i : goal.overflow_add-i
overflow_add-i g c = omega (arith, inside g (goal.at.overflow_add-i g c).Start)

pub get-requires-2 : goal.get-requires-2
get-requires-2 g c = omega (arith, inside g (goal.at.get-requires-2 g c).Start)

pub overflow_mul-i-3 : goal.overflow_mul-i-3
overflow_mul-i-3 g c = omega (arith, inside g (goal.at.overflow_mul-i-3 g c).Start)

pub overflow_add-i-2 : goal.overflow_add-i-2
overflow_add-i-2 g c = omega (arith, inside g (goal.at.overflow_add-i-2 g c).Start)

pub get-requires-3 : goal.get-requires-3
get-requires-3 g c = omega (arith, inside g (goal.at.get-requires-3 g c).Start)

pub overflow_mul-i-4 : goal.overflow_mul-i-4
overflow_mul-i-4 g c = omega (arith, inside g (goal.at.overflow_mul-i-4 g c).Start)

pub overflow_add-i-3 : goal.overflow_add-i-3
overflow_add-i-3 g c = omega (arith, inside g (goal.at.overflow_add-i-3 g c).Start)

pub get-requires-4 : goal.get-requires-4
get-requires-4 g c = omega (arith, inside g (goal.at.get-requires-4 g c).Start)

pub returns : goal.returns
unfolding rectangle recorded
returns g c = rw add-zero
    (ap₂ (λ (a b : Span). record { x = a; y = b })
    (ap₂ (λ (a b : ℕ). record { lo = a; hi = b }) c.get.ensures c.get-2.ensures)
    (ap₂ (λ (a b : ℕ). record { lo = a; hi = b }) c.get-3.ensures c.get-4.ensures))
