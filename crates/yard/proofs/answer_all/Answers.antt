-- 4,097 starts hold those of a grid that keeps the limits.
use Rattle.std.proofs.Common.{arith, sym, ◌≤◌}
use Rattle.std.proofs.Math.Seq.{length-take-le}
use Rattle.yard.proofs.Limits.{tiles_kept}
use Rattle.yard.proofs.answer_all.Given as given
use Rattle.yard.proofs.answer_all.Goals.{After-tile_count}
use Rattle.yard.proofs.answer_all.Goals as goal

few : (g : given.Over) (c : After-tile_count g) → c.tile_count.result ≤ 256
few g c = rw c.tile_count.ensures (tiles_kept _ c.args.footprints (sym c.in_ok-within.ensures))

pub overflow_mul-starts : goal.overflow_mul-starts
overflow_mul-starts g c = omega (arith, few g (goal.at.overflow_mul-starts g c).After-tile_count)

pub overflow_add-starts : goal.overflow_add-starts
overflow_add-starts g c = omega (arith, few g (goal.at.overflow_add-starts g c).After-tile_count)

pub slice_bounds-starts-end : goal.slice_bounds-starts-end
slice_bounds-starts-end g c = omega (arith, few g (goal.at.slice_bounds-starts-end g c).After-tile_count)

pub slice_bounds-starts-end-2 : goal.slice_bounds-starts-end-2
slice_bounds-starts-end-2 g c = sym (length-take-le _ _ (omega (arith, few g (goal.at.slice_bounds-starts-end-2 g c).After-tile_count)))
