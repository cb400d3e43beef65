-- What waits on built tables after a last row of square d, and all footprints in the order of a walk: document 01, "The walk". Assumes nothing.
use Rattle.std.specs.Prelude.{Bool, ◌&&◌, ◌||◌, not, List, [], ◌++◌, map, ℕ, leb, ltb, eqb, take}
use Rattle.laws.specs.Lists.{filter, from, each, any}
use Rattle.rules.specs.Sizes.{tiles, tile_of}
use Rattle.rules.specs.Classes.{report_tile}
use Rattle.rules.specs.Register.{footprints, rectangle}
use Rattle.rules.specs.Front.{insert_all, directions}
use Rattle.rules.specs.Walk.{group_exists, tile_in_group, square_of, waiting_row}
use Rattle.rules.specs.declared.Grid.{Grid}
use Rattle.rules.specs.declared.Point.{Point}
use Rattle.rules.specs.declared.Direction.{Direction}
use Rattle.rules.specs.declared.Item.{Item}
use Rattle.rules.specs.declared.Item.TheVariants.{Group, Tile, Footprint}
use Rattle.rules.specs.declared.Three.{Three}

-- the levels of the groups of a direction
unfoldable pub levels : Grid → Point → Direction → List ℕ
levels g q d = filter (group_exists g q d) (from 1 g.n)

-- of each direction the first group of square > d
unfoldable pub groups_wait : Grid → List ℕ → Point → ℕ → Direction → List Item
groups_wait g reg q d dir = map (Group dir) (take 1 (filter (λ l. ltb d (square_of g reg q (Group dir l))) (levels g q dir)))

-- the tile's group has square ≤ d
unfoldable pub group_passed : Grid → List ℕ → Point → ℕ → ℕ → Bool
group_passed g reg q d t = any (λ dir. any (λ l. tile_in_group g q dir l t && leb (square_of g reg q (Group dir l)) d) (levels g q dir)) directions

-- tiles of square > d whose group has square ≤ d
unfoldable pub tile_waits : Grid → List ℕ → Point → ℕ → ℕ → Bool
tile_waits g reg q d t = ltb d (square_of g reg q (Tile t)) && group_passed g reg q d t

-- footprints not given whose reporting tile is Tq or has square ≤ d
unfoldable pub footprint_waits : Grid → List ℕ → Point → ℕ → List ℕ → ℕ → Bool
footprint_waits g reg q d given i =
    not (any (eqb i) given)
    && (eqb (report_tile g q (rectangle g reg i)) (tile_of g q) || leb (square_of g reg q (Tile (report_tile g q (rectangle g reg i)))) d)

-- all that waits after the footprints given, the last of them of square d
unfoldable pub wait_items : Grid → List ℕ → Point → ℕ → List ℕ → List Item
wait_items g reg q d given =
    each (groups_wait g reg q d) directions
    ++ (map Tile (filter (tile_waits g reg q d) (tiles g)) ++ map Footprint (filter (footprint_waits g reg q d given) (footprints reg)))

-- the same as waiting rows, in order
unfoldable pub front_after : Grid → List ℕ → Point → ℕ → List ℕ → List Three
front_after g reg q d given = insert_all (map (waiting_row g reg q) (wait_items g reg q d given)) []

-- all footprints by square, then number
unfoldable pub nearest : Grid → List ℕ → Point → List Three
nearest g reg q = insert_all (map (waiting_row g reg q) (map Footprint (footprints reg))) []
