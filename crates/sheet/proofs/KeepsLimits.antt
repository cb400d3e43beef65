-- What the program's own limits keep small. Assumes nothing.
use mathlib.Core.Path.{◌≡◌}
use mathlib.Core.Bool.{or-true}
use Prim.Native.Nat.{ℕ, ◌<◌}
use borrow.Author.Tests.{lt-ltb}
use Rattle.rules.specs.Refusals.{refuse}
use Rattle.rules.specs.Text.{sheet_verdict}
use Rattle.rules.specs.declared.Grid.{Grid}
use Rattle.rules.specs.declared.Refusal.TheVariants.{Sizes}

pub many_tiles : (g : Grid) (footprints : ℕ) → 16 < g.n → refuse Sizes ≡ sheet_verdict g footprints
unfolding sheet_verdict
many_tiles g footprints h = rw (lt-ltb 16 g.n h, or-true)
