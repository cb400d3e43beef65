-- `walk::spoil_ask` meets its contract. Assumes nothing.
use Rattle.std.proofs.Common.{◌≡◌, ◌*◌, ◌∙◌, ap, rules, length, take, replicate}
use Prim.Native.Nat.{ℕ}
use lib.Seq.{length-take-le}
use Rattle.walk.proofs.Asking.{spoils}
use Rattle.walk.proofs.spoil_ask.Goals as goal

pub returns : goal.returns
returns c =
    let a = c.args in
    let front : c.fill.new.self ≡ replicate (length a.front.now) 0 = search rules in
    let zeros : c.fill-2.new.self ≡ replicate (length (take (2 * a.j) a.out.now)) 0 = search rules in
    spoils a.walk a.front.now a.out.now c.fill.new.self c.fill-2.new.self a.j front
    (zeros ∙ ap (λ (n : ℕ). replicate n 0) (length-take-le (2 * a.j) a.out.now c.requires))
    c.walk_at.result c.walk_at.ensures c.refused.result c.refused.ensures
