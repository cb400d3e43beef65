-- A machine whose weight falls until it has halted has halted after as many steps as it weighs. Assumes nothing.
use mathlib.Core.Path.{◌≡◌, refl, sym, ap, ◌∙◌}
use mathlib.Core.Bool.{Bool, true, false}
use Prim.Native.Nat.{ℕ, zero, suc, ◌≤◌, ◌<◌}
use native.Mathlib.Nat.{not-suc-le-zero}
use native.Mathlib.Omega.{arith}
use Rattle.laws.specs.Lists.{run_for}
use Rattle.laws.proofs.Tests.{by_bool}

module _ {S : Type 0} (halted : S → Bool) (step : S → S) where
  -- once it has halted it stands still
  pub stands_still : (k : ℕ) (m : S) → halted m ≡ true → run_for halted step k m ≡ m
  stands_still zero m e = refl
  stands_still (suc k) m e = rw e

  pub goes_on : (k : ℕ) (m : S) → halted m ≡ false → run_for halted step (suc k) m ≡ run_for halted step k (step m)
  goes_on k m e = rw e

  module _ (weight : S → ℕ) (falls : (m : S) → halted m ≡ false → weight (step m) < weight m) where
    pub has_halted : (k : ℕ) (m : S) → weight m ≤ k → halted (run_for halted step k m) ≡ true
    has_halted zero m h = by_bool (halted m) (λ e. e) (λ e. let l = falls m e in absurd (not-suc-le-zero {n = weight (step m)} (omega arith)))
    has_halted (suc k) m h =
        by_bool (halted m)
        (λ e. ap halted (stands_still (suc k) m e) ∙ e)
        (λ e. let l = falls m e in ap halted (goes_on k m e) ∙ has_halted k (step m) (omega arith))

    -- more steps than it weighs change nothing
    pub enough : (k l : ℕ) (m : S) → weight m ≤ k → weight m ≤ l → run_for halted step k m ≡ run_for halted step l m
    enough zero l m h i =
        by_bool (halted m) (λ e. sym (stands_still l m e)) (λ e. let f = falls m e in absurd (not-suc-le-zero {n = weight (step m)} (omega arith)))
    enough (suc k) zero m h i =
        by_bool (halted m) (λ e. stands_still (suc k) m e) (λ e. let f = falls m e in absurd (not-suc-le-zero {n = weight (step m)} (omega arith)))
    enough (suc k) (suc l) m h i =
        by_bool (halted m)
        (λ e. stands_still (suc k) m e ∙ sym (stands_still (suc l) m e))
        (λ e. let f = falls m e in goes_on k m e ∙ enough k l (step m) (omega arith) (omega arith) ∙ sym (goes_on l m e))
