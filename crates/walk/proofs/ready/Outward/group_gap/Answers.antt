-- `walk::ready::Outward::group_gap` meets its contract, direction by direction. Assumes nothing.
use mathlib.Core.Path.{◌∙◌}
use Rattle.walk.proofs.Near.{sized, columns, point_most}
use Rattle.walk.proofs.Groups.{gap_up, gap_right, gap_down, gap_left, up_on, right_on, down_on, left_on}
use native.Mathlib.Omega.{arith}
use Rattle.walk.proofs.Readiness.{placed_of}
use Rattle.walk.proofs.ready.Outward.group_gap.Goals as goal

pub overflow_add-r : goal.overflow_add-r
overflow_add-r c =
    let a = c.args in
    let pre = c.requires in
    let column = c.column-c in
    let column2 = c.column-r in
    let s = sized a.self.now.g a.self.now.q (placed_of a.self.now) in
    let o = columns a.self.now.g a.self.now.q (placed_of a.self.now) in
    let m = point_most a.self.now.g a.self.now.q (placed_of a.self.now) in
    let on = (up_on a.self.now.g a.self.now.q a.d a.level column.result column2.result column.ensures column2.ensures pre c.in-Up.is) in
    omega (arith, column.ensures, column2.ensures)

pub gap_to-requires : goal.gap_to-requires
gap_to-requires c =
    let a = c.args in
    let pre = c.requires in
    let column = c.column-c in
    let column2 = c.column-r in
    let s = sized a.self.now.g a.self.now.q (placed_of a.self.now) in
    let o = columns a.self.now.g a.self.now.q (placed_of a.self.now) in
    let m = point_most a.self.now.g a.self.now.q (placed_of a.self.now) in
    let on = (up_on a.self.now.g a.self.now.q a.d a.level column.result column2.result column.ensures column2.ensures pre c.in-Up.is) in
    (omega arith, omega arith, omega (arith, column.ensures, column2.ensures), omega arith)

pub overflow_add-c : goal.overflow_add-c
overflow_add-c c =
    let a = c.args in
    let pre = c.requires in
    let column = c.column-c in
    let column2 = c.column-r in
    let s = sized a.self.now.g a.self.now.q (placed_of a.self.now) in
    let o = columns a.self.now.g a.self.now.q (placed_of a.self.now) in
    let m = point_most a.self.now.g a.self.now.q (placed_of a.self.now) in
    let on = (right_on a.self.now.g a.self.now.q a.d a.level column.result column2.result column.ensures column2.ensures pre c.in-Right.is) in
    omega (arith, column.ensures, column2.ensures)

pub gap_to-requires-in-Right : goal.gap_to-requires-in-Right
gap_to-requires-in-Right c =
    let a = c.args in
    let pre = c.requires in
    let column = c.column-c in
    let column2 = c.column-r in
    let s = sized a.self.now.g a.self.now.q (placed_of a.self.now) in
    let o = columns a.self.now.g a.self.now.q (placed_of a.self.now) in
    let m = point_most a.self.now.g a.self.now.q (placed_of a.self.now) in
    let on = (right_on a.self.now.g a.self.now.q a.d a.level column.result column2.result column.ensures column2.ensures pre c.in-Right.is) in
    (omega arith, omega arith, omega (arith, column.ensures, column2.ensures), omega arith)

pub overflow_sub-r : goal.overflow_sub-r
overflow_sub-r c =
    let a = c.args in
    let pre = c.requires in
    let column = c.column-c in
    let column2 = c.column-r in
    let s = sized a.self.now.g a.self.now.q (placed_of a.self.now) in
    let o = columns a.self.now.g a.self.now.q (placed_of a.self.now) in
    let m = point_most a.self.now.g a.self.now.q (placed_of a.self.now) in
    let on = (down_on a.self.now.g a.self.now.q a.d a.level column.result column2.result column.ensures column2.ensures pre c.in-Down.is) in
    omega (arith, column.ensures, column2.ensures)

pub gap_to-requires-in-Down : goal.gap_to-requires-in-Down
gap_to-requires-in-Down c =
    let a = c.args in
    let pre = c.requires in
    let column = c.column-c in
    let column2 = c.column-r in
    let s = sized a.self.now.g a.self.now.q (placed_of a.self.now) in
    let o = columns a.self.now.g a.self.now.q (placed_of a.self.now) in
    let m = point_most a.self.now.g a.self.now.q (placed_of a.self.now) in
    let on = (down_on a.self.now.g a.self.now.q a.d a.level column.result column2.result column.ensures column2.ensures pre c.in-Down.is) in
    (omega arith, omega arith, omega (arith, column.ensures, column2.ensures), omega arith)

pub overflow_sub-c : goal.overflow_sub-c
overflow_sub-c c =
    let a = c.args in
    let pre = c.requires in
    let column = c.column-c in
    let column2 = c.column-r in
    let s = sized a.self.now.g a.self.now.q (placed_of a.self.now) in
    let o = columns a.self.now.g a.self.now.q (placed_of a.self.now) in
    let m = point_most a.self.now.g a.self.now.q (placed_of a.self.now) in
    let on = (left_on a.self.now.g a.self.now.q a.d a.level column.result column2.result column.ensures column2.ensures pre c.in-Left.is) in
    omega (arith, column.ensures, column2.ensures)

pub gap_to-requires-in-Left : goal.gap_to-requires-in-Left
gap_to-requires-in-Left c =
    let a = c.args in
    let pre = c.requires in
    let column = c.column-c in
    let column2 = c.column-r in
    let s = sized a.self.now.g a.self.now.q (placed_of a.self.now) in
    let o = columns a.self.now.g a.self.now.q (placed_of a.self.now) in
    let m = point_most a.self.now.g a.self.now.q (placed_of a.self.now) in
    let on = (left_on a.self.now.g a.self.now.q a.d a.level column.result column2.result column.ensures column2.ensures pre c.in-Left.is) in
    (omega arith, omega arith, omega (arith, column.ensures, column2.ensures), omega arith)

pub returns-in-Up : goal.returns-in-Up
returns-in-Up c =
    let a = c.args in
    let column = c.column-c in
    let column2 = c.column-r in
    (c.gap_to.ensures.0 ∙ gap_up a.self.now.g a.self.now.q a.d a.level column.result column2.result column.ensures column2.ensures c.in-Up.is, c.gap_to.ensures.1)

pub returns-in-Right : goal.returns-in-Right
returns-in-Right c =
    let a = c.args in
    let column = c.column-c in
    let column2 = c.column-r in
    (c.gap_to-in-Right.ensures.0 ∙ gap_right a.self.now.g a.self.now.q a.d a.level column.result column2.result column.ensures column2.ensures c.in-Right.is, c.gap_to-in-Right.ensures.1)

pub returns-in-Down : goal.returns-in-Down
returns-in-Down c =
    let a = c.args in
    let column = c.column-c in
    let column2 = c.column-r in
    (c.gap_to-in-Down.ensures.0 ∙ gap_down a.self.now.g a.self.now.q a.d a.level column.result column2.result column.ensures column2.ensures c.in-Down.is, c.gap_to-in-Down.ensures.1)

pub returns-in-Left : goal.returns-in-Left
returns-in-Left c =
    let a = c.args in
    let column = c.column-c in
    let column2 = c.column-r in
    (c.gap_to-in-Left.ensures.0 ∙ gap_left a.self.now.g a.self.now.q a.d a.level column.result column2.result column.ensures column2.ensures c.in-Left.is, c.gap_to-in-Left.ensures.1)
