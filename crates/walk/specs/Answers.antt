-- What an answer says on paper, with the state that goes with it. Assumes nothing.
use Rattle.std.specs.Prelude.{◌≡◌, ℕ, false, Result, Ok, Err}
use Rattle.rules.specs.Refusals.{Paper, paper, paper_answer}
use Rattle.rules.specs.Walk.{walk_at, refused_walk}
use Rattle.rules.specs.declared.Point.{Point}
use Rattle.rules.specs.declared.Refusal.{Refusal}
use Rattle.rules.specs.declared.Walk.{Walk}
use Rattle.rules.specs.declared.Walked.{Walked}

pub record Says (r : Walked) (p : Paper) (w : Walk) : Type 0 where
  pub paper : paper_answer r.answer ≡ p
  pub walk : r.walk ≡ w

-- what a start tells, and the state after it, where so many rows wait or it is refused
abbrev pub start_paper : Result ℕ Refusal → Paper
start_paper (Ok waiting) = paper_answer (Ok 0)
start_paper (Err why) = paper why

abbrev pub start_walk : Point → Result ℕ Refusal → Walk
start_walk q (Ok waiting) = walk_at q waiting false
start_walk q (Err why) = refused_walk
