-- What one digit more makes of a number. Assumes nothing.
use Rattle.std.specs.Prelude.{ℕ, ◌+◌, ◌-◌, ◌*◌, cond, ltb, Option, Some, None}

-- a number with a digit behind it, where it stays within most
abbrev within : ℕ → ℕ → Option ℕ
within longer most = cond (ltb most longer) None (Some longer)

-- the same with any byte: no digit stands below 48 or past 57
unfoldable pub pushed : ℕ → ℕ → ℕ → Option ℕ
pushed value byte most =
    cond (ltb byte 48) None (cond (ltb 57 byte) None (within (10 * value + (byte - 48)) most))
