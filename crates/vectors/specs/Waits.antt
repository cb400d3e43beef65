-- What waits to be written, and the line of a number. Assumes nothing.
use Rattle.std.specs.Prelude.{ℕ, ◌-◌, List, [], ◌∷◌, ◌++◌, take, length}
use Rattle.std.specs.Fmt.{decimal}
use Rattle.vectors.specs.declared.output.Lines.{Lines}

abbrev pub waits : {W : Type 0} → Lines W → List ℕ
waits l = take l.waiting l.out.now

-- how many bytes fit behind those
abbrev pub room : {W : Type 0} → Lines W → ℕ
room l = length l.out.now - l.waiting

-- its digits, and LF
abbrev pub line : ℕ → List ℕ
line n = decimal n ++ 10 ∷ []
