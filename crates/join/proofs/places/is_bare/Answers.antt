-- `join::places::is_bare` meets its contract. Assumes nothing.
use mathlib.Core.Path.{◌≡◌, ap, ap₂, ◌∙◌}
use Prim.Native.Nat.{◌+◌, ◌*◌}
use native.Mathlib.Omega.{arith}
use lib.Dec.{eqb}
use lib.ListN.{length, get_or}
use Rattle.rules.specs.Tables.{Tables, run_no, run_start}
use Rattle.join.specs.Levels.{bare_tile}
use Rattle.join.proofs.places.is_bare.Goals.{After-run_no-k}
use Rattle.join.proofs.places.is_bare.Goals as goal

is-first : (c : After-run_no-k) → c.run_no-k.result ≡ 16 * c.args.t
unfolding run_no
is-first c = omega (arith, c.run_no-k.ensures)

pub offset_bounds-starts-k : goal.offset_bounds-starts-k
offset_bounds-starts-k c = omega (arith, is-first c, c.requires.1)

long : (c : After-run_no-k) → length c.side.inside.starts.now ≡ length c.args.side.now.starts
long c = ap (λ (t : Tables). length t.starts) c.side.view_is

pub bounds-starts-k : goal.bounds-starts-k
bounds-starts-k c = omega (arith, long (goal.at.bounds-starts-k c).After-run_no-k, is-first (goal.at.bounds-starts-k c).After-run_no-k, c.requires.1)

pub overflow_add-result : goal.overflow_add-result
overflow_add-result c = omega (arith, is-first (goal.at.overflow_add-result c).After-run_no-k, c.requires.1)

pub offset_bounds-starts-k-2 : goal.offset_bounds-starts-k-2
offset_bounds-starts-k-2 c = omega (arith, is-first (goal.at.offset_bounds-starts-k-2 c).After-run_no-k, c.requires.1)

pub bounds-starts-k-2 : goal.bounds-starts-k-2
bounds-starts-k-2 c = omega (arith, long (goal.at.bounds-starts-k-2 c).After-run_no-k, is-first (goal.at.bounds-starts-k-2 c).After-run_no-k, c.requires.1)

pub returns : goal.returns
unfolding bare_tile run_start run_no
returns c =
    let a : c.run_no-k.result ≡ 16 * c.args.t + 0 = omega (arith, is-first (goal.at.returns c).After-run_no-k) in
    let b : c.run_no-k.result + 16 ≡ 16 * c.args.t + 16 = omega (arith, is-first (goal.at.returns c).After-run_no-k) in
    ap₂ (λ i j. eqb (get_or c.side.inside.starts.now i 0) (get_or c.side.inside.starts.now j 0)) a b
    ∙ ap (λ (t : Tables). eqb (get_or t.starts (16 * c.args.t + 0) 0) (get_or t.starts (16 * c.args.t + 16) 0)) c.side.view_is
