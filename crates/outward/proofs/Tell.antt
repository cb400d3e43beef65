-- A run told to C, and one that is refused. Assumes nothing.
use mathlib.Core.Path.{◌≡◌, ap, ◌∙◌}
use Prim.Native.Nat.{ℕ, ◌-◌}
use Rattle.rules.specs.Refusals.{Paper, paper, paper_ends}
use Rattle.std.specs.Prelude.{Ok}
use Rattle.rules.specs.declared.Part.{Part}
use Rattle.rules.specs.declared.Refusal.{Refusal}
use Rattle.rules.proofs.Papers.{refused_number}
use Rattle.outward.specs.Outward.{told, outward, outward_run}
use Rattle.outward.specs.declared.Told.{Told}

-- a run between its ends
pub run_at : (p : Part) (w : Paper) → paper_ends (Ok p) ≡ w → ◌≡◌ {A = Told × ℕ} (told 0 (p.past - p.begin), p.begin) (outward_run w)
unfolding outward_run paper_ends
run_at p w k = ap outward_run k

refused_told : (q : Refusal) → ◌≡◌ {A = Told × ℕ} (told (outward (paper q)).number 0, 0) (outward_run (paper q))
unfolding outward outward_run
refused_told q = rw (refused_number q)

pub run_refused : (t : Told) (q : Refusal) (w : Paper) → t ≡ outward (paper q) → paper q ≡ w
    → ◌≡◌ {A = Told × ℕ} (told t.number 0, 0) (outward_run w)
run_refused t q w h k = ap (λ (x : Told). (told x.number 0, 0)) h ∙ refused_told q ∙ ap outward_run k
