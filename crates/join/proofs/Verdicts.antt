-- The refusals of a join one after the other, and what is answered past them. Assumes nothing.
use mathlib.Core.Path.{◌≡◌, refl}
use mathlib.Core.Bool.{Bool, true, false}
use mathlib.Core.List.{List}
use Prim.Native.Nat.{ℕ}
use lib.ListN.{length}
use Rattle.laws.specs.Lists.{up_to, each}
use borrow.Author.Tests.{not-false}
use Rattle.laws.proofs.Tests.{neither, fst_true, snd_true}
use Rattle.rules.specs.Register.{bad_register}
use Rattle.rules.specs.Tables.{Tables, bad_lengths, bad_starts, runs, good_runs}
use Rattle.rules.specs.Refusals.{Paper, Verdict, pass, refuse, judge, paper_answer, fit}
use Rattle.rules.specs.Join.{join_pairs, pair_writes, join_verdict, joins}
use Rattle.std.specs.Prelude.{Err}
use Rattle.rules.specs.declared.Grid.{Grid}
use Rattle.rules.specs.declared.Refusal.{Refusal}
use Rattle.join.specs.Levels.{Judged}

pub starts_good : (g : Grid) (t : Tables) → bad_lengths g t ≡ false → bad_starts g t.starts ≡ false
unfolding bad_lengths
starts_good g t e = (neither (bad_register t.reg) (bad_starts g t.starts) e).1

-- what passes a judge did not meet its refusal
judged_on : (b : Bool) (why : Refusal) (v : Verdict) → pass ≡ judge b why v → (b ≡ false) × (pass ≡ v)
judged_on true why v e = cc
judged_on false why v e = (refl, e)

module _ (g : Grid) (tr ts : Tables) (r : ℕ) where
  pub passed : pass ≡ join_verdict g tr ts r → Judged g tr ts
  unfolding join_verdict
  passed e =
      let sizes = judged_on _ _ _ e in
      let lengths = judged_on _ _ _ sizes.1 in
      let radius = judged_on _ _ _ lengths.1 in
      let damage = judged_on _ _ _ radius.1 in
      let long = neither (bad_lengths g tr) (bad_lengths g ts) lengths.0 in
      let good = not-false _ damage.0 in
      record {
        sizes = sizes.0;
        of_r = record { lengths = long.0; all_good = fst_true (good_runs g tr (up_to (runs g))) _ good };
        of_s = record { lengths = long.1; all_good = snd_true (good_runs g tr (up_to (runs g))) _ good };
      }

  pub refused : (why : Refusal) (out : List ℕ) → refuse why ≡ join_verdict g tr ts r → ◌≡◌ {A = Paper × List ℕ} (paper_answer (Err why), out) (joins g tr ts r out)
  unfolding joins paper_answer
  refused why out e = rw (← e)

  pub accepted : (out : List ℕ) → pass ≡ join_verdict g tr ts r → fit (length (join_pairs g tr ts r)) (each pair_writes (join_pairs g tr ts r)) out ≡ joins g tr ts r out
  unfolding joins
  accepted out e = rw (← e)
