-- The line is that under one of the keys that are left.
use Rattle.std.proofs.Common.{◌≡◌, map, drop}
use Rattle.rules.specs.Text.{follow}
use Rattle.sheet.specs.Places.{key_of, read_at}
use Rattle.sheet.proofs.lines.line_at.Given as goal

abbrev pub invariant-loop-key : goal.invariant-loop-key
invariant-loop-key l = read_at (map key_of (drop l.key-index l.key-items)) l.text l.at ≡ read_at (follow (key_of l.fn.last)) l.text l.at
