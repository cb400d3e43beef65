-- `walk::ready::Outward::give` meets its contract: two stores side by side. Assumes nothing.
use mathlib.Core.Path.{◌≡◌, ap, ◌∙◌}
use mathlib.Core.List.{◌∷◌, ◌++◌}
use Prim.Native.Nat.{ℕ, ◌+◌, ◌*◌}
use lib.ListN.{take, drop, length-set}
use Rattle.laws.proofs.Stores.{two_stores}
use Rattle.rules.specs.Walk.{row_writes}
use native.Mathlib.Omega.{arith}
use Rattle.walk.proofs.ready.Outward.give.Goals as goal

pub bounds-out-given-2 : goal.bounds-out-given-2
bounds-out-given-2 c = let p = c.requires in simp length-set (omega arith)

pub returns : goal.returns
unfolding row_writes
returns c =
    let n : 2 * c.args.given + 2 ≡ 2 * (c.args.given + 1) = omega arith in
    rw c.from.ensures (two_stores c.args.out.now (2 * c.args.given) c.args.i c.args.square c.requires
    ∙ ap (λ (k : ℕ). take (2 * c.args.given) c.args.out.now ++ (c.args.i ∷ c.args.square ∷ drop k c.args.out.now)) n)
