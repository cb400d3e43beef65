-- The slice keeps its length, and stays the lent one.
use Rattle.std.proofs.Common.{◌≡◌, length}
use Rattle.vectors.proofs.output.Lines.put_table.Given as goal

abbrev pub invariant-loop-n : goal.invariant-loop-n
invariant-loop-n g l =
    record {
      lent : length l.self.out.now ≡ length l.initial.self.out.now;
      same-reference : l.self.out.ghost_name ≡ l.initial.self.out.ghost_name;
    }
