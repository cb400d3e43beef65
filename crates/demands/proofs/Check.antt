-- The check says yes to tables as the build left them, whatever stands behind the counted entries, and to nothing else. Assumes nothing.
use mathlib.Core.Path.{◌≡◌, refl, sym, ap, ◌∙◌}
use mathlib.Core.Bool.{Bool, true, false, cond}
use mathlib.Core.List.{List, [], ◌++◌}
use Prim.Native.Nat.{ℕ}
use lib.Dec.{eqb}
use lib.ListN.{length, get_or, take, drop, take-append-drop}
use lib.Seq.{take_at}
use Rattle.std.specs.Prelude.{Ok}
use Rattle.laws.specs.Lists.{same}
use Rattle.laws.proofs.Tests.{clash, fst_true, snd_true}
use Rattle.laws.proofs.Same.{same_itself, same_true}
use Rattle.rules.specs.Tables.{tables, bad_lengths, built_entries, built_starts, built_tables}
use Rattle.rules.specs.Refusals.{Paper, paper, paper_checked, Verdict, pass, refuse, unless}
use Rattle.rules.specs.Build.{register_verdict, is_built, checks}
use Rattle.rules.specs.declared.Grid.{Grid}
use Rattle.rules.proofs.Good.{Accepted}
use Rattle.rules.proofs.Built.{good_lengths}
use Rattle.rules.proofs.Papers.{refused_number}

module _ (g : Grid) (reg : List ℕ) where
  -- what the test of starts and counted entries says
  pub is_built_law : (starts entries : List ℕ) → is_built g reg starts entries ≡ true
      → (starts ≡ built_starts g reg) × (entries ≡ built_entries g reg ++ drop (length (built_entries g reg)) entries)
  unfolding is_built
  is_built_law starts entries e =
      let s = same_true starts (built_starts g reg) (fst_true (same starts (built_starts g reg)) _ e) in
      let t = same_true (take (length (built_entries g reg)) entries) (built_entries g reg) (snd_true (same starts (built_starts g reg)) _ e) in
      (s, sym (take-append-drop (length (built_entries g reg)) entries) ∙ ap (λ (l : List ℕ). l ++ drop (length (built_entries g reg)) entries) t)

  built_is : (tail : List ℕ) → is_built g reg (built_starts g reg) (built_entries g reg ++ tail) ≡ true
  unfolding is_built
  built_is tail = rw (same_itself (built_starts g reg), take_at (built_entries g reg) tail (length (built_entries g reg)) refl) (same_itself (built_entries g reg))

  passes : Accepted g reg → register_verdict g reg (built_starts g reg) pass ≡ pass
  unfolding register_verdict
  passes ok = rw (ok.sizes, lengths, ok.none_bad)
    where
      lengths : bad_lengths g (tables reg (built_starts g reg) []) ≡ false
      lengths = unfold bad_lengths built_tables in good_lengths g reg ok []

  pub yes_to_built : Accepted g reg → (tail : List ℕ) → checks g reg (built_starts g reg) (built_entries g reg ++ tail) ≡ paper_checked (Ok true)
  unfolding checks
  yes_to_built ok tail = rw (passes ok, built_is tail)

  pub yes_to_no_other : (starts entries : List ℕ) → checks g reg starts entries ≡ paper_checked (Ok true)
      → (starts ≡ built_starts g reg) × (entries ≡ built_entries g reg ++ drop (length (built_entries g reg)) entries)
  unfolding checks paper_checked
  yes_to_no_other starts entries e = is_built_law starts entries (go (register_verdict g reg starts pass) (is_built g reg starts entries) e)
    where
      go : (v : Verdict) (b : Bool) → unless v paper (paper_checked (Ok b)) ≡ paper_checked (Ok true) → b ≡ true
      go (refuse r) b f = clash (sym (ap (λ (p : Paper). eqb p.number 0) f) ∙ refused_number r)
      go pass true f = refl
      go pass false f = ap (λ (p : Paper). eqb (get_or p.values 0 0) 1) f
