-- `walk::ready::Outward::group_tiles` meets its contract, direction by direction. Assumes nothing.
use Rattle.walk.proofs.Near.{sized, columns}
use Rattle.walk.proofs.Groups.{line_up, line_right, line_down, line_left, up_on, right_on, down_on, left_on, lies_as}
use native.Mathlib.Omega.{arith}
use Rattle.walk.proofs.Readiness.{placed_of}
use Rattle.walk.proofs.ready.Outward.group_tiles.Goals as goal

pub overflow_add-r : goal.overflow_add-r
overflow_add-r c =
    let a = c.args in
    let pre = c.requires in
    let column = c.column-c in
    let column2 = c.column-r in
    let s = sized a.self.now.g a.self.now.q (placed_of a.self.now) in
    let o = columns a.self.now.g a.self.now.q (placed_of a.self.now) in
    let on = (up_on a.self.now.g a.self.now.q a.d a.level column.result column2.result column.ensures column2.ensures pre.1 c.in-Up.is) in
    omega (arith, column.ensures, column2.ensures, pre.0)

pub overflow_add-c : goal.overflow_add-c
overflow_add-c c =
    let a = c.args in
    let pre = c.requires in
    let column = c.column-c in
    let column2 = c.column-r in
    let s = sized a.self.now.g a.self.now.q (placed_of a.self.now) in
    let o = columns a.self.now.g a.self.now.q (placed_of a.self.now) in
    let on = (up_on a.self.now.g a.self.now.q a.d a.level column.result column2.result column.ensures column2.ensures pre.1 c.in-Up.is) in
    omega (arith, column.ensures, column2.ensures, pre.0)

pub row_tiles-requires : goal.row_tiles-requires
row_tiles-requires c =
    let a = c.args in
    let pre = c.requires in
    let column = c.column-c in
    let column2 = c.column-r in
    let s = sized a.self.now.g a.self.now.q (placed_of a.self.now) in
    let o = columns a.self.now.g a.self.now.q (placed_of a.self.now) in
    let on = (up_on a.self.now.g a.self.now.q a.d a.level column.result column2.result column.ensures column2.ensures pre.1 c.in-Up.is) in
    (omega arith, omega (arith, column.ensures, column2.ensures), omega (arith, column.ensures, column2.ensures, c.saturating_sub.ensures, c.min.ensures, pre.0), omega (arith, c.min.ensures))

pub overflow_add-c-in-Right : goal.overflow_add-c-in-Right
overflow_add-c-in-Right c =
    let a = c.args in
    let pre = c.requires in
    let column = c.column-c in
    let column2 = c.column-r in
    let s = sized a.self.now.g a.self.now.q (placed_of a.self.now) in
    let o = columns a.self.now.g a.self.now.q (placed_of a.self.now) in
    let on = (right_on a.self.now.g a.self.now.q a.d a.level column.result column2.result column.ensures column2.ensures pre.1 c.in-Right.is) in
    omega (arith, column.ensures, column2.ensures, pre.0)

pub overflow_add-r-in-Right : goal.overflow_add-r-in-Right
overflow_add-r-in-Right c =
    let a = c.args in
    let pre = c.requires in
    let column = c.column-c in
    let column2 = c.column-r in
    let s = sized a.self.now.g a.self.now.q (placed_of a.self.now) in
    let o = columns a.self.now.g a.self.now.q (placed_of a.self.now) in
    let on = (right_on a.self.now.g a.self.now.q a.d a.level column.result column2.result column.ensures column2.ensures pre.1 c.in-Right.is) in
    omega (arith, column.ensures, column2.ensures, pre.0)

pub overflow_add-r-in-Right-2 : goal.overflow_add-r-in-Right-2
overflow_add-r-in-Right-2 c =
    let a = c.args in
    let pre = c.requires in
    let column = c.column-c in
    let column2 = c.column-r in
    let s = sized a.self.now.g a.self.now.q (placed_of a.self.now) in
    let o = columns a.self.now.g a.self.now.q (placed_of a.self.now) in
    let on = (right_on a.self.now.g a.self.now.q a.d a.level column.result column2.result column.ensures column2.ensures pre.1 c.in-Right.is) in
    omega (arith, column.ensures, column2.ensures, pre.0)

pub overflow_add-r-in-Right-3 : goal.overflow_add-r-in-Right-3
overflow_add-r-in-Right-3 c =
    let a = c.args in
    let pre = c.requires in
    let column = c.column-c in
    let column2 = c.column-r in
    let s = sized a.self.now.g a.self.now.q (placed_of a.self.now) in
    let o = columns a.self.now.g a.self.now.q (placed_of a.self.now) in
    let on = (right_on a.self.now.g a.self.now.q a.d a.level column.result column2.result column.ensures column2.ensures pre.1 c.in-Right.is) in
    omega (arith, column.ensures, column2.ensures, pre.0)

pub column_tiles-requires : goal.column_tiles-requires
column_tiles-requires c =
    let a = c.args in
    let pre = c.requires in
    let column = c.column-c in
    let column2 = c.column-r in
    let s = sized a.self.now.g a.self.now.q (placed_of a.self.now) in
    let o = columns a.self.now.g a.self.now.q (placed_of a.self.now) in
    let on = (right_on a.self.now.g a.self.now.q a.d a.level column.result column2.result column.ensures column2.ensures pre.1 c.in-Right.is) in
    (omega arith, omega (arith, column.ensures, column2.ensures), omega (arith, column.ensures, column2.ensures, c.saturating_sub-in-Right.ensures, c.min-in-Right.ensures, pre.0), omega (arith, c.min-in-Right.ensures))

pub overflow_sub-r : goal.overflow_sub-r
overflow_sub-r c =
    let a = c.args in
    let pre = c.requires in
    let column = c.column-c in
    let column2 = c.column-r in
    let s = sized a.self.now.g a.self.now.q (placed_of a.self.now) in
    let o = columns a.self.now.g a.self.now.q (placed_of a.self.now) in
    let on = (down_on a.self.now.g a.self.now.q a.d a.level column.result column2.result column.ensures column2.ensures pre.1 c.in-Down.is) in
    omega (arith, column.ensures, column2.ensures, pre.0)

pub overflow_add-c-in-Down : goal.overflow_add-c-in-Down
overflow_add-c-in-Down c =
    let a = c.args in
    let pre = c.requires in
    let column = c.column-c in
    let column2 = c.column-r in
    let s = sized a.self.now.g a.self.now.q (placed_of a.self.now) in
    let o = columns a.self.now.g a.self.now.q (placed_of a.self.now) in
    let on = (down_on a.self.now.g a.self.now.q a.d a.level column.result column2.result column.ensures column2.ensures pre.1 c.in-Down.is) in
    omega (arith, column.ensures, column2.ensures, pre.0)

pub overflow_add-c-in-Down-2 : goal.overflow_add-c-in-Down-2
overflow_add-c-in-Down-2 c =
    let a = c.args in
    let pre = c.requires in
    let column = c.column-c in
    let column2 = c.column-r in
    let s = sized a.self.now.g a.self.now.q (placed_of a.self.now) in
    let o = columns a.self.now.g a.self.now.q (placed_of a.self.now) in
    let on = (down_on a.self.now.g a.self.now.q a.d a.level column.result column2.result column.ensures column2.ensures pre.1 c.in-Down.is) in
    omega (arith, column.ensures, column2.ensures, pre.0)

pub overflow_add-c-in-Down-3 : goal.overflow_add-c-in-Down-3
overflow_add-c-in-Down-3 c =
    let a = c.args in
    let pre = c.requires in
    let column = c.column-c in
    let column2 = c.column-r in
    let s = sized a.self.now.g a.self.now.q (placed_of a.self.now) in
    let o = columns a.self.now.g a.self.now.q (placed_of a.self.now) in
    let on = (down_on a.self.now.g a.self.now.q a.d a.level column.result column2.result column.ensures column2.ensures pre.1 c.in-Down.is) in
    omega (arith, column.ensures, column2.ensures, pre.0)

pub row_tiles-requires-in-Down : goal.row_tiles-requires-in-Down
row_tiles-requires-in-Down c =
    let a = c.args in
    let pre = c.requires in
    let column = c.column-c in
    let column2 = c.column-r in
    let s = sized a.self.now.g a.self.now.q (placed_of a.self.now) in
    let o = columns a.self.now.g a.self.now.q (placed_of a.self.now) in
    let on = (down_on a.self.now.g a.self.now.q a.d a.level column.result column2.result column.ensures column2.ensures pre.1 c.in-Down.is) in
    (omega arith, omega (arith, column.ensures, column2.ensures), omega (arith, column.ensures, column2.ensures, c.saturating_sub-in-Down.ensures, c.min-in-Down.ensures, pre.0), omega (arith, c.min-in-Down.ensures))

pub overflow_sub-c : goal.overflow_sub-c
overflow_sub-c c =
    let a = c.args in
    let pre = c.requires in
    let column = c.column-c in
    let column2 = c.column-r in
    let s = sized a.self.now.g a.self.now.q (placed_of a.self.now) in
    let o = columns a.self.now.g a.self.now.q (placed_of a.self.now) in
    let on = (left_on a.self.now.g a.self.now.q a.d a.level column.result column2.result column.ensures column2.ensures pre.1 c.in-Left.is) in
    omega (arith, column.ensures, column2.ensures, pre.0)

pub overflow_add-r-in-Left : goal.overflow_add-r-in-Left
overflow_add-r-in-Left c =
    let a = c.args in
    let pre = c.requires in
    let column = c.column-c in
    let column2 = c.column-r in
    let s = sized a.self.now.g a.self.now.q (placed_of a.self.now) in
    let o = columns a.self.now.g a.self.now.q (placed_of a.self.now) in
    let on = (left_on a.self.now.g a.self.now.q a.d a.level column.result column2.result column.ensures column2.ensures pre.1 c.in-Left.is) in
    omega (arith, column.ensures, column2.ensures, pre.0)

pub column_tiles-requires-in-Left : goal.column_tiles-requires-in-Left
column_tiles-requires-in-Left c =
    let a = c.args in
    let pre = c.requires in
    let column = c.column-c in
    let column2 = c.column-r in
    let s = sized a.self.now.g a.self.now.q (placed_of a.self.now) in
    let o = columns a.self.now.g a.self.now.q (placed_of a.self.now) in
    let on = (left_on a.self.now.g a.self.now.q a.d a.level column.result column2.result column.ensures column2.ensures pre.1 c.in-Left.is) in
    (omega arith, omega (arith, column.ensures, column2.ensures), omega (arith, column.ensures, column2.ensures, c.saturating_sub-in-Left.ensures, c.min-in-Left.ensures, pre.0), omega (arith, c.min-in-Left.ensures))

pub returns-in-Up : goal.returns-in-Up
returns-in-Up c =
    let a = c.args in
    let column = c.column-c in
    let column2 = c.column-r in
    let less = c.saturating_sub in
    let least = c.min in
    lies_as _ _ c.row_tiles.result c.row_tiles.ensures (line_up a.self.now.g a.self.now.q a.d a.level column.result column2.result column.ensures column2.ensures less.result least.result c.in-Up.is less.ensures least.ensures)

pub returns-in-Right : goal.returns-in-Right
returns-in-Right c =
    let a = c.args in
    let column = c.column-c in
    let column2 = c.column-r in
    let less2 = c.saturating_sub-in-Right in
    let least2 = c.min-in-Right in
    lies_as _ _ c.column_tiles.result c.column_tiles.ensures (line_right a.self.now.g a.self.now.q a.d a.level column.result column2.result column.ensures column2.ensures less2.result least2.result c.in-Right.is less2.ensures least2.ensures)

pub returns-in-Down : goal.returns-in-Down
returns-in-Down c =
    let a = c.args in
    let column = c.column-c in
    let column2 = c.column-r in
    let less3 = c.saturating_sub-in-Down in
    let least3 = c.min-in-Down in
    lies_as _ _ c.row_tiles-in-Down.result c.row_tiles-in-Down.ensures (line_down a.self.now.g a.self.now.q a.d a.level column.result column2.result column.ensures column2.ensures less3.result least3.result c.in-Down.is less3.ensures least3.ensures)

pub returns-in-Left : goal.returns-in-Left
returns-in-Left c =
    let a = c.args in
    let column = c.column-c in
    let column2 = c.column-r in
    let less4 = c.saturating_sub-in-Left in
    let least4 = c.min-in-Left in
    lies_as _ _ c.column_tiles-in-Left.result c.column_tiles-in-Left.ensures (line_left a.self.now.g a.self.now.q a.d a.level column.result column2.result column.ensures column2.ensures less4.result least4.result c.in-Left.is less4.ensures least4.ensures)
