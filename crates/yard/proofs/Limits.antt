-- What the program's buffers hold: the starts of 16 by 16 tiles, and the numbers of a good text. Assumes nothing.
use mathlib.Core.Path.{◌≡◌, sym, ap, ◌∙◌}
use mathlib.Core.List.{List}
use Prim.Native.Nat.{ℕ, ◌+◌, ◌*◌, ◌≤◌}
use native.Mathlib.Nat.{mul-le-mul}
use Rattle.std.specs.Prelude.{Result, Ok}
use Rattle.laws.proofs.Tests.{by_le}
use Rattle.rules.specs.Sizes.{tile_count}
use Rattle.rules.specs.Refusals.{pass, refuse}
use Rattle.rules.specs.Text.{sheet_verdict}
use Rattle.rules.specs.declared.Grid.{Grid}
use Rattle.rules.specs.declared.Refusal.{Refusal}
use Rattle.rules.specs.declared.Refusal.TheVariants.{Sizes}
use Rattle.sheet.specs.Sheets.{judges}
use Rattle.sheet.specs.declared.Sheet.{Sheet}
use Rattle.sheet.proofs.KeepsLimits.{many_tiles}
use Rattle.sheet.proofs.Numbers.{good_text}

-- n is at most 16 where the limits are kept, so there are at most 256 tiles
pub tiles_kept : (g : Grid) (footprints : ℕ) → sheet_verdict g footprints ≡ pass → tile_count g ≤ 256
unfolding tile_count
tiles_kept g footprints e =
    by_le g.n 16
    (λ h. mul-le-mul {n₂ = 16} {m₂ = 16} h h)
    (λ h. let z : refuse Sizes ≡ pass = many_tiles g footprints h ∙ e in cc)

-- a good text says two numbers, four for each footprint, and 16,384 at most
pub numbers_fit : (text lent numbers : List ℕ) (s : Sheet) (r : Result Sheet Refusal) → r ≡ Ok s
    → ◌≡◌ {A = Result Sheet Refusal × List ℕ} (r, numbers) (judges text lent)
    → (2 + 4 * s.footprints ≤ s.numbers) × (s.numbers ≤ 16384)
numbers_fit text lent numbers s r e j =
    let t = good_text text lent s (sym (ap (λ (x : Result Sheet Refusal × List ℕ). x.0) j) ∙ e) in
    (t.some, t.few)
