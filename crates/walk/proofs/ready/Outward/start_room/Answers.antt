-- `walk::ready::Outward::start_room` meets its contract: the judged tables are few enough. Assumes nothing.
use native.Mathlib.Omega.{arith}
use Rattle.walk.proofs.Readiness.{few_tiles, few_lent}
use Rattle.walk.proofs.ready.Outward.start_room.Goals as goal

pub overflow_add-result : goal.overflow_add-result
overflow_add-result c = let w = c.args.self.now in omega (arith, few_tiles w, few_lent w, c.count.ensures, c.tile_count.ensures)

pub overflow_add-result-2 : goal.overflow_add-result-2
overflow_add-result-2 c = let w = c.args.self.now in omega (arith, few_tiles w, few_lent w, c.count.ensures, c.tile_count.ensures)

pub overflow_mul-result : goal.overflow_mul-result
overflow_mul-result c = let w = c.args.self.now in omega (arith, few_tiles w, few_lent w, c.count.ensures, c.tile_count.ensures)
