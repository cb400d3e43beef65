-- `join::sides::Sides::of_position` meets its contract: the pairs with the tile that is there, if one is. Assumes nothing.
use mathlib.Core.Path.{◌≡◌, sym, ap, ◌∙◌}
use Rattle.rules.specs.Join.{tile_pairs}
use Rattle.rules.proofs.Good.{good_sizes}
use Rattle.rules.proofs.JoinCode.{tile_at_below}
use Rattle.join.specs.Keeping.{state, kept}
use Rattle.join.specs.Levels.{pairs_at}
use Rattle.join.proofs.Levels.{pairs_at_law, no_pairs_at, keeps_none}
use Rattle.join.proofs.sides.Sides.of_position.Goals.{After-tile_at}
use Rattle.join.proofs.sides.Sides.of_position.Goals as goal

whole : (c : After-tile_at) → let s = c.args.self.now in pairs_at s.g s.left s.right s.r c.args.t c.args.p ≡ tile_pairs s.g s.left s.right s.r c.args.t c.tile_at.result
whole c =
    let s = c.args.self.now in
    pairs_at_law s.g s.left s.right s.r c.args.t c.args.p c.tile_at.result (sym c.has_tile.ensures ∙ c.if-not-has_tile.false) c.tile_at.ensures

pub has_tile-requires : goal.has_tile-requires
has_tile-requires c =
    let z = good_sizes c.args.self.now.g c.args.self.now.judged.sizes in
    (z.n_pos, z.n_most, c.requires.0, c.requires.1)

pub returns-then-not-has_tile-clause-kept : goal.returns-then-not-has_tile-clause-kept
returns-then-not-has_tile-clause-kept c =
    let s = c.args.self.now in
    keeps_none (state c.args.found.now.pairs c.args.found.now.out.now) (no_pairs_at s.g s.left s.right s.r c.args.t c.args.p (sym c.has_tile.ensures ∙ c.if-not-has_tile.true))

pub tile_at-requires : goal.tile_at-requires
tile_at-requires c =
    let z = good_sizes c.args.self.now.g c.args.self.now.judged.sizes in
    (z.n_pos, z.n_most, c.requires.0, c.requires.1, sym c.has_tile.ensures ∙ c.if-not-has_tile.false)

pub of_tiles-requires : goal.of_tiles-requires
of_tiles-requires c =
    let s = c.args.self.now in
    let inside = tile_at_below s.g (good_sizes s.g s.judged.sizes) c.args.t c.requires.0 c.args.p c.requires.1 (sym c.has_tile.ensures ∙ c.if-not-has_tile.false) in
    (c.requires.0, rw c.tile_at.ensures inside, rw (← whole (goal.at.of_tiles-requires c).After-tile_at) c.requires.2)

pub returns-clause-kept : goal.returns-clause-kept
returns-clause-kept c = c.of_tiles.ensures.kept ∙ ap (kept (state c.args.found.now.pairs c.args.found.now.out.now)) (sym (whole (goal.at.returns-clause-kept c).After-tile_at))
