-- `join::write` meets its contract: a small result is copied, a large one found again and laid into the output. Assumes nothing.
use mathlib.Core.Path.{◌≡◌}
use mathlib.Core.List.{List}
use Prim.Native.Nat.{◌≤◌}
use lib.ListN.{length}
use Rattle.rules.specs.Join.{Pair, join_pairs}
use Rattle.rules.proofs.JoinCount.{few_pairs}
use Rattle.join.specs.Keeping.{most_pairs}
use Rattle.join.proofs.Writing.{found_all, no_room, copied, laid}
use native.Mathlib.Omega.{arith}
use Rattle.join.proofs.write.Goals.{After-pairs-found, Start}
use Rattle.join.proofs.write.Goals as goal

abbrev all-pairs : After-pairs-found → List Pair
all-pairs c = let s = c.args.sides.now in join_pairs s.g s.left s.right s.r

all_found : (c : After-pairs-found) → c.pairs-found.result ≡ length (all-pairs c)
all_found c = found_all _ _ _ _ c.pairs-found.ensures

few : (c : After-pairs-found) → c.pairs-found.result ≤ most_pairs
few c = let s = c.args.sides.now in rw (all_found c) (few_pairs s.g s.left s.right s.r s.judged.of_r.all_good s.judged.of_s.all_good)

pub overflow_mul-need : goal.overflow_mul-need
overflow_mul-need c = omega (arith, few (goal.at.overflow_mul-need c).After-pairs-found)

pub returns-then-out-need : goal.returns-then-out-need
returns-then-out-need c =
    let found = (goal.at.returns-then-out-need c).After-pairs-found in
    no_room (all-pairs found) c.args.out.now c.pairs-found.result (all_found found) (omega (arith, c.if-out-need.true))

pub returns-then-need : goal.returns-then-need
returns-then-need c =
    copied (all-pairs (goal.at.returns-then-need c).After-pairs-found) c.args.out.now c.pairs-found.result _ _ _ c.pairs-found.ensures (omega arith) (omega arith)
    (rw c.copy_from_slice.ensures.after)

pub returns-else-need : goal.returns-else-need
returns-else-need c =
    let found = (goal.at.returns-else-need c).After-pairs-found in
    laid (all-pairs found) c.args.out.now c.pairs-found.result _ (all_found found) (omega arith) _ c.pairs.ensures
