-- A group's tiles as they are held, and what groups bring: rows that no register decides. Assumes nothing.
use Rattle.std.specs.Prelude.{◌≡◌, List, [], map, ◌≤◌}
use Rattle.rules.specs.Lines.{Line}
use Rattle.rules.specs.Walk.{waiting_row}
use Rattle.rules.specs.declared.Grid.{Grid}
use Rattle.rules.specs.declared.Point.{Point}
use Rattle.rules.specs.declared.Item.{Item}
use Rattle.rules.specs.declared.Three.{Three}
use Rattle.walk.specs.declared.group.Tiles.{Tiles}

-- the tiles held are those of the line
pub record Lies (l : Line) (r : Tiles) : Type 0 where
  pub start : r.start ≡ l.start
  pub apart : r.apart ≡ l.apart
  pub many : r.many ≡ l.many
  pub close : r.apart ≤ 64
  pub few : r.many ≤ 64

-- groups and tiles as waiting rows
abbrev pub item_rows : Grid → Point → List Item → List Three
item_rows g q items = map (waiting_row g [] q) items
