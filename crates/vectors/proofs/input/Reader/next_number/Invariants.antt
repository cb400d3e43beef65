-- What is read so far is within what is asked for, the reading is open, and the buffer keeps its length and stays the lent one.
use Rattle.std.proofs.Common.{◌≡◌, ◌≤◌, IfSome, length}
use Rattle.vectors.specs.declared.input.State.TheVariants.{Open}
use Rattle.vectors.proofs.input.Reader.next_number.Given as goal

abbrev pub invariant-loop : goal.invariant-loop
invariant-loop g l =
    record {
      within : IfSome l.number (λ v. v ≤ l.most);
      state : l.self.state ≡ Open;
      lent : length l.self.buffer.now ≡ length l.initial.self.buffer.now;
      same-reference : l.self.buffer.ghost_name ≡ l.initial.self.buffer.ghost_name;
    }
