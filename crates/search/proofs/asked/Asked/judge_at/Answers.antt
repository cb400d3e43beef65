-- `search::asked::Asked::judge_at` meets its contract: the tile's square, then its allowed classes. Assumes nothing.
use Rattle.rules.proofs.Good.{good_sizes}
use Rattle.search.proofs.Entries.{near_made}
use Rattle.search.proofs.Tiles.{tile_far, tile_near, mask_allows}
use native.Mathlib.Omega.{arith}
use Rattle.search.proofs.asked.Asked.judge_at.Goals as goal

pub cover-requires : goal.cover-requires
cover-requires form c = let s = good_sizes c.args.self.now.g c.args.self.now.sizes in omega arith

pub cover-requires-2 : goal.cover-requires-2
cover-requires-2 form c = let s = good_sizes c.args.self.now.g c.args.self.now.sizes in omega arith

pub within-requires : goal.within-requires
within-requires form c =
    let s = c.args.self.now in
    (near_made s.g s.q (record { sizes = s.sizes; point = s.place }) c.point.result c.point.ensures, record { x = c.cover.ensures.1; y = c.cover-2.ensures.1 })

pub returns-then-not-within : goal.returns-then-not-within
returns-then-not-within form c =
    let s = c.args.self.now in
    tile_far s.g s.q s.r (record { sizes = s.sizes; point = s.place }) c.args.row c.args.col c.requires.on_grid.1 s.t c.cover.result c.cover-2.result c.cover.ensures.0 c.cover-2.ensures.0 c.point.result c.point.ensures c.within.result c.within.ensures c.if-not-within.true c.args.count (form.L.Form.numbers c.args.lent.now)

pub tile_no-tile-requires : goal.tile_no-tile-requires
tile_no-tile-requires form c = let s = good_sizes c.args.self.now.g c.args.self.now.sizes in omega arith

pub judge_tile-requires-clause-allows : goal.judge_tile-requires-clause-allows
judge_tile-requires-clause-allows form c =
    let s = c.args.self.now in
    mask_allows s.g s.q s.r (record { sizes = s.sizes; point = s.place }) c.args.row c.args.col c.requires.on_grid.1 c.allowed_mask-mask.result c.column-at_col.result c.column-at_row.result
    c.column-at_col.ensures c.column-at_row.ensures c.allowed_mask-mask.ensures c.tile_no-tile.result c.tile_no-tile.ensures.0

pub returns : goal.returns
returns form c =
    let s = c.args.self.now in
    tile_near s.g s.q s.r (record { sizes = s.sizes; point = s.place }) c.args.row c.args.col c.requires.on_grid.1 s.t c.cover.result c.cover-2.result c.cover.ensures.0 c.cover-2.ensures.0 c.point.result c.point.ensures c.within.result c.within.ensures c.if-not-within.false c.args.count (form.L.Form.numbers c.args.lent.now) c.judge_tile.result _ c.tile_no-tile.result c.tile_no-tile.ensures.0 c.judge_tile.ensures
