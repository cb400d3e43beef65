-- `join::masks::all_marks` meets its contract: one mask more at every turn. Assumes nothing.
use mathlib.Core.Path.{◌≡◌, ap, ◌∙◌}
use mathlib.Core.List.{List}
use Prim.Native.Nat.{ℕ, ◌+◌, ◌/◌, ◌%◌, ◌<◌}
use native.Mathlib.Nat.{lt_irrefl}
use native.Mathlib.Omega.{arith}
use lib.ListN.{length, set, length-set}
use lib.Seq.{get_or-set_same, get_or-set_other}
use Rattle.laws.proofs.Tests.{by_le}
use Rattle.grid.specs.Places.{position, is_on}
use Rattle.join.specs.Marks.{Nine, MarksBelow}
use Rattle.join.proofs.masks.all_marks.Goals as goal

one_more : (l : List ℕ) (k v : ℕ) → k < length l → MarksBelow k l → Nine v (k / 16) (k % 16) → MarksBelow (k + 1) (set l k v)
one_more l k v h below new j hj px py =
    by_le k j
    (λ hk.
    let e : j ≡ k = omega arith in
    rw (e, get_or-set_same l k v 0 h) (new px py))
    (λ hk. ap (λ x. is_on x (position px py)) (get_or-set_other l k j v 0 (λ e. lt_irrefl k (omega arith))) ∙ below j hk px py)

pub loop-k-preserved : goal.loop-k-preserved
loop-k-preserved c =
    (length-set c.loop-k.masks _ _ ∙ c.loop-k.invariant.0, one_more c.loop-k.masks c.loop-k.k c.marks.result (omega (arith, c.loop-k.invariant.0)) c.loop-k.invariant.1 c.marks.ensures.1)

pub returns : goal.returns
returns c =
    let e : c.loop-k.k ≡ 256 = omega arith in
    record { long = c.loop-k.invariant.0; right = rw e at c.loop-k.invariant.1 }
