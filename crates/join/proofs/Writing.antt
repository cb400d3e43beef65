-- What a join answers once its pairs are found: refusal 6 where they find no room, else the pairs over the output's beginning, whether they
-- were kept apart and copied or laid into the output at once. Assumes nothing.
use mathlib.Core.Path.{◌≡◌, sym, ap, ◌∙◌}
use mathlib.Core.List.{List, ◌++◌}
use Prim.Native.Nat.{ℕ, ◌*◌, ◌≤◌, ◌<◌}
use native.Mathlib.Omega.{arith}
use lib.ListN.{length, take, drop}
use lib.Seq.{take_at}
use borrow.Author.Tests.{lt-ltb, le-ltb}
use Rattle.laws.specs.Lists.{each, over}
use Rattle.rules.specs.Refusals.{Paper, paper_answer, fit}
use Rattle.rules.specs.Join.{Pair, pair_writes}
use Rattle.std.specs.Prelude.{Ok, Err}
use Rattle.rules.specs.declared.Refusal.TheVariants.{Room}
use Rattle.rules.proofs.JoinCount.{two_a_pair}
use Rattle.join.specs.Keeping.{Kept, state, kept}
use Rattle.join.proofs.Keeping.{kept_pairs, kept_whole}

-- all pairs are counted
pub found_all : (l : List Pair) (m m' : List ℕ) (found : ℕ) → state found m' ≡ kept (state 0 m) l → found ≡ length l
found_all l m m' found e =
    let f : found ≡ (kept (state 0 m) l).pairs = ap (λ (s : Kept). s.pairs) e in
    let h = kept_pairs (state 0 m) l in
    omega arith

module _ (l : List Pair) (out : List ℕ) (found : ℕ) where
  need : found ≡ length l → length (each pair_writes l) ≡ 2 * found
  need e = two_a_pair l ∙ ap (λ (n : ℕ). 2 * n) (sym e)

  pub no_room : found ≡ length l → length out < 2 * found
      → ◌≡◌ {A = Paper × List ℕ} (paper_answer (Err (Room (2 * found))), out) (fit (length l) (each pair_writes l) out)
  unfolding paper_answer
  no_room e h = rw (need e, lt-ltb (length out) (2 * found) h)

  written : (out' : List ℕ) → found ≡ length l → 2 * found ≤ length out → out' ≡ over (each pair_writes l) out
      → ◌≡◌ {A = Paper × List ℕ} (paper_answer (Ok found), out') (fit (length l) (each pair_writes l) out)
  written out' e h f =
      let k : length (each pair_writes l) ≤ length out = omega (arith, need e) in
      rw (le-ltb (length out) (length (each pair_writes l)) k, e, f)

  -- kept apart, and copied
  pub copied : (m m' out' : List ℕ) → state found m' ≡ kept (state 0 m) l → 2 * found ≤ length m → 2 * found ≤ length out
      → out' ≡ take (2 * found) m' ++ drop (2 * found) out
      → ◌≡◌ {A = Paper × List ℕ} (paper_answer (Ok found), out') (fit (length l) (each pair_writes l) out)
  copied m m' out' e h k f =
      let n = found_all l m m' found e in
      let whole : m' ≡ over (each pair_writes l) m = ap (λ (s : Kept). s.memory) e ∙ kept_whole m l (omega arith) in
      let front : take (2 * found) m' ≡ each pair_writes l = ap (take (2 * found)) whole ∙ take_at (each pair_writes l) (drop (length (each pair_writes l)) m) (2 * found) (need n) in
      written out' n k (f ∙ rw (front, need n))

  -- laid into the output
  pub laid : (out' : List ℕ) → found ≡ length l → 2 * found ≤ length out → (again : ℕ) → state again out' ≡ kept (state 0 out) l
      → ◌≡◌ {A = Paper × List ℕ} (paper_answer (Ok found), out') (fit (length l) (each pair_writes l) out)
  laid out' e h again f = written out' e h (ap (λ (s : Kept). s.memory) f ∙ kept_whole out l (omega arith))
