-- `join::sides::Sides::marks_of` meets its contract: the mask of a class pair is the one at its number. Assumes nothing.
use mathlib.Core.Path.{◌≡◌, ap, ◌∙◌}
use mathlib.Core.List.{List}
use Prim.Native.Nat.{ℕ, ◌+◌, ◌*◌, ◌/◌, ◌%◌, ◌<◌}
use lib.ListN.{get_or}
use Rattle.rules.specs.Classes.{marked}
use Rattle.join.specs.Marks.{Nine, Marks}
use native.Mathlib.Omega.{arith}
use Rattle.join.proofs.sides.Sides.marks_of.Goals as goal

pair-marks : (l : List ℕ) (a b : ℕ) → Marks l → a < 16 → b < 16 → Nine (get_or l (16 * a + b) 0) a b
pair-marks l a b m ha hb px py =
    let row : (16 * a + b) / 16 ≡ a = omega arith in
    let class : (16 * a + b) % 16 ≡ b = omega arith in
    m.right (16 * a + b) (omega arith) px py ∙ ap (λ x. marked px py x ((16 * a + b) % 16)) row ∙ ap (marked px py a) class

pub returns : goal.returns
returns c = pair-marks c.args.self.now.masks c.args.a c.args.b c.args.self.now.marks c.requires.0 c.requires.1
