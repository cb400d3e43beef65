-- A good text's numbers were read, and have room.
use Rattle.std.proofs.Common.{arith, sym, ◌+◌, ◌*◌, ◌≤◌}
use Rattle.std.proofs.Math.Seq.{length-take-le}
use Rattle.yard.proofs.Limits.{numbers_fit}
use Rattle.yard.proofs.run.Given as given
use Rattle.yard.proofs.run.Goals.{In_ok-said}
use Rattle.yard.proofs.run.Goals as goal

fit : (g : given.Over) (c : In_ok-said g) → (2 + 4 * c.in_ok-said.said.footprints ≤ c.in_ok-said.said.numbers) × (c.in_ok-said.said.numbers ≤ 16384)
fit g c = numbers_fit _ _ _ c.in_ok-said.said _ c.in_ok-said.was c.judge.ensures

pub slice_bounds-numbers-end : goal.slice_bounds-numbers-end
slice_bounds-numbers-end g c = omega (arith, (fit g (goal.at.slice_bounds-numbers-end g c).In_ok-said).1)

pub slice_bounds-answer_all-end : goal.slice_bounds-answer_all-end
slice_bounds-answer_all-end g c = sym (length-take-le _ _ (omega (arith, (fit g (goal.at.slice_bounds-answer_all-end g c).In_ok-said).1)))

pub answer_all-requires : goal.answer_all-requires
answer_all-requires g c =
    let f = fit g (goal.at.answer_all-requires g c).In_ok-said in
    rw (length-take-le c.in_ok-said.said.numbers c.judge.new.numbers (omega (arith, f.1))) f.0
