-- What a verdict that passes says of its judges. Assumes nothing.
use mathlib.Core.Path.{◌≡◌, refl, sym, ap}
use mathlib.Core.Bool.{Bool, true, false}
use Rattle.laws.proofs.Tests.{clash}
use Rattle.rules.specs.Refusals.{Verdict, pass, refuse, judge}
use Rattle.rules.specs.declared.Refusal.{Refusal}

abbrev passes : Verdict → Bool
passes pass = true
passes (refuse r) = false

pub pass_not_refuse : (r : Refusal) → refuse r ≡ pass → ⊥
pass_not_refuse r e = clash (sym (ap passes e))

pub judge_pass : (b : Bool) (r : Refusal) (v : Verdict) → judge b r v ≡ pass → (b ≡ false) × (v ≡ pass)
judge_pass true r v e = absurd (pass_not_refuse r e)
judge_pass false r v e = (refl, e)
