-- A question's text ends within the output.
use Rattle.std.proofs.Common.{◌≤◌, ◌≡◌, ◌∙◌, ◌⊎◌, ℕ, length, sym, ap, inl, inr}
use Rattle.std.proofs.Math.Seq.{length-take-le}
use Rattle.std.specs.Prelude.{Result, Ok, Err}
use Rattle.answers.specs.Answers.{bytes_of}
use Rattle.answers.proofs.Room.{text_within}
use Rattle.yard.proofs.Yard.ask.Given as given
use Rattle.yard.proofs.Yard.ask.Goals.{Joined-answer, in-Ok, in-Ok-2}
use Rattle.yard.proofs.Yard.ask.Goals as goal

either : (r : Result ℕ ℕ) (n : ℕ) → (r ≡ Ok n) ⊎ (r ≡ Err n) → n ≡ bytes_of r
either r n (inl e) = sym (ap bytes_of e)
either r n (inr e) = sym (ap bytes_of e)

fits : (g : given.Over) (c : Joined-answer g) → c.match-answer.count ≤ length c.answer-answer.new.out
fits g c =
    let e : c.match-answer.count ≡ bytes_of c.answer-answer.result =
    elim c.match-answer.branch [
      | in-Ok w ↦ w.count-is ∙ either _ _ w.in-Ok.is
      | in-Ok-2 w ↦ w.count-is ∙ either _ _ w.in-Ok.is
    ] in
    rw e (text_within _ _ _ _ _ _ _ _ _ c.answer-answer.ensures)

pub slice_bounds-out-end : goal.slice_bounds-out-end
slice_bounds-out-end g c = fits g (goal.at.slice_bounds-out-end g c).Joined-answer

pub slice_bounds-write_all-end : goal.slice_bounds-write_all-end
slice_bounds-write_all-end g c = sym (length-take-le _ _ (fits g (goal.at.slice_bounds-write_all-end g c).Joined-answer))
