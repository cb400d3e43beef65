-- The buffer keeps its length, and stays the lent one.
use Rattle.std.proofs.Common.{◌≡◌, length}
use Rattle.vectors.proofs.input.Reader.next_table.Given as goal

abbrev pub invariant-loop-place : goal.invariant-loop-place
invariant-loop-place g l =
    record {
      lent : length l.self.buffer.now ≡ length l.initial.self.buffer.now;
      same-reference : l.self.buffer.ghost_name ≡ l.initial.self.buffer.ghost_name;
    }
