-- What stands in a text at a place: a decimal, a key, a line. Assumes nothing.
use Rattle.std.specs.Prelude.{cond, List, [], ◌∷◌, ℕ, ◌+◌, eqb, length, get_or, drop, Option, Some, None}
use Rattle.rules.specs.Text as text
use Rattle.rules.specs.Text.{lf, digits, value, is_decimal, word, begins_with}
use Rattle.sheet.specs.declared.decimals.Decimal.{Decimal}
use Rattle.sheet.specs.declared.lines.Key.{Key}
use Rattle.sheet.specs.declared.lines.Key.TheVariants as key
use Rattle.sheet.specs.declared.lines.Line.{Line}

-- ---- keys

-- the key of the rules that a key of the code stands for
unfoldable pub key_of : Key → text.Key
key_of key.Start = text.Start
key_of key.Tiles = text.Tiles
key_of key.Side = text.Side
key_of key.Xlo = text.Xlo
key_of key.Ylo = text.Ylo
key_of key.Xhi = text.Xhi
key_of key.Yhi = text.Yhi
key_of key.X = text.X
key_of key.Y = text.Y
key_of key.R = text.R

-- and back
unfoldable pub coded : text.Key → Key
coded text.Start = key.Start
coded text.Tiles = key.Tiles
coded text.Side = key.Side
coded text.Xlo = key.Xlo
coded text.Ylo = key.Ylo
coded text.Xhi = key.Xhi
coded text.Yhi = key.Yhi
coded text.X = key.X
coded text.Y = key.Y
coded text.R = key.R

-- ---- a decimal and a line

-- the decimal at a place
unfoldable pub decimal_at : List ℕ → ℕ → Option Decimal
decimal_at l at =
    cond (is_decimal (digits (drop at l)))
    (Some (record { number = value 0 (digits (drop at l)); end = at + length (digits (drop at l)) })) None

-- a line whose number was read: LF has to follow
abbrev pub ended : text.Key → List ℕ → Option Decimal → Option Line
ended k l None = None
ended k l (Some d) = cond (eqb (get_or l d.end 0) lf) (Some (record { key = coded k; number = d.number; behind = d.end + 1 })) None

-- a line under a key, its number at a place
unfoldable pub numbered_at : text.Key → List ℕ → ℕ → Option Line
numbered_at k l at = ended k l (decimal_at l at)

-- the line at a place, under one of some keys
unfoldable pub read_at : List text.Key → List ℕ → ℕ → Option Line
read_at [] l at = None
read_at (k ∷ ks) l at = cond (begins_with (word k) (drop at l)) (numbered_at k l (at + length (word k))) (read_at ks l at)
