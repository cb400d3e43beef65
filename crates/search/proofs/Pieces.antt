-- A loop over the columns of a row of the box, or over its rows: what is left, one piece more, damage, the end. Assumes nothing.
use mathlib.Core.Path.{◌≡◌, refl, ap, ◌∙◌}
use mathlib.Core.Bool.{false, ◌&&◌}
use mathlib.Core.List.{List, ◌++◌}
use Prim.Native.Nat.{ℕ, suc, ◌+◌, ◌-◌, ◌*◌, ◌≤◌, ◌<◌}
use native.Mathlib.Nat.{suc-mul, mul-le-mul_right}
use native.Mathlib.Omega.{arith}
use lib.ListN.{length}
use Rattle.std.specs.Prelude.{Some}
use Rattle.laws.specs.Lists.{from, each}
use Rattle.laws.proofs.Remaining.{next_left, none_left}
use Rattle.rules.specs.Tables.{Tables, good_runs}
use Rattle.rules.specs.declared.Grid.{Grid}
use Rattle.rules.specs.declared.Point.{Point}
use Rattle.rules.proofs.Good.{good_runs_append}
use Rattle.search.specs.Reading.{keep_hit, Left, hits_of, JudgedRuns}
use Rattle.search.proofs.Left.{left_same, left_on, left_bad, left_none}
use Rattle.search.proofs.Tile.{hits_of_append}

-- the pieces from i up to and including last
abbrev pieces_from : (ℕ → List ℕ) → ℕ → ℕ → List ℕ
pieces_from piece last i = each piece (from i (last + 1 - i))

-- of the pieces first..last, each of at most most entries, those from i on are left, and found hits are found
pub record PiecesLeft (g : Grid) (t : Tables) (q : Point) (r : ℕ) (whole : List ℕ) (piece : ℕ → List ℕ) (most c₀ : ℕ) (lent₀ : List ℕ)
    (first last : ℕ) (lent : List ℕ) (found i : ℕ) : Type 0 where
  pub whole_is : whole ≡ pieces_from piece last first
  pub left : Left (keep_hit g t.reg q) (good_runs g t whole) (good_runs g t (pieces_from piece last i)) (hits_of g t q r whole) (hits_of g t q r (pieces_from piece last i)) c₀ found lent₀ lent
  pub few : found ≤ c₀ + (i - first) * most
  pub sized : length lent ≡ length lent₀
  pub low : first ≤ i
  pub high : i ≤ last + 1
  pub inside : last < g.n
  pub small : g.n ≤ 64

module _ {g : Grid} {t : Tables} {q : Point} {r : ℕ} {whole : List ℕ} {piece : ℕ → List ℕ} {most c₀ : ℕ} {lent₀ : List ℕ} {first last : ℕ} where
  pub pieces_all : whole ≡ pieces_from piece last first → first ≤ last → last < g.n → g.n ≤ 64
      → PiecesLeft g t q r whole piece most c₀ lent₀ first last lent₀ c₀ first
  pieces_all e h k m = record {
    whole_is = e;
    left = left_same c₀ lent₀ (ap (good_runs g t) e) (ap (hits_of g t q r) e);
    few = omega arith;
    sized = refl;
    low = omega arith;
    high = omega arith;
    inside = k;
    small = m;
  }

  module _ {lent : List ℕ} {found i : ℕ} (p : PiecesLeft g t q r whole piece most c₀ lent₀ first last lent found i) where
    pub pieces_end : last < i → JudgedRuns g t q r whole (64 * most) c₀ lent₀ (Some found) lent
    unfolding good_runs
    pieces_end h =
        let n = none_left i (last + 1) (omega arith) in
        let u = p.high in let v = p.inside in let w = p.small in
        let m : (i - first) * most ≤ 64 * most = mul-le-mul_right most (omega arith) in
        record {
          left = left_none p.left (ap (λ (l : List ℕ). good_runs g t (each piece l)) n) (ap (λ (l : List ℕ). hits_of g t q r (each piece l)) n);
          few = omega (arith, p.few);
        }

    module _ (lt : i ≤ last) where
      next : pieces_from piece last i ≡ piece i ++ pieces_from piece last (i + 1)
      next = ap (each piece) (next_left i (last + 1) (omega arith))

      good_next : good_runs g t (pieces_from piece last i) ≡ (good_runs g t (piece i) && good_runs g t (pieces_from piece last (i + 1)))
      good_next = ap (good_runs g t) next ∙ good_runs_append g t (piece i) (pieces_from piece last (i + 1))

      hits_next : hits_of g t q r (pieces_from piece last i) ≡ hits_of g t q r (piece i) ++ hits_of g t q r (pieces_from piece last (i + 1))
      hits_next = ap (hits_of g t q r) next ∙ hits_of_append g t q r (piece i) (pieces_from piece last (i + 1))

      few_next : (c : ℕ) → c ≤ found + most → c ≤ c₀ + (i + 1 - first) * most
      few_next c k =
          let l = p.low in
          let e : i + 1 - first ≡ suc (i - first) = omega arith in
          let f : (i + 1 - first) * most ≡ (i - first) * most + most = ap (λ (n : ℕ). n * most) e ∙ suc-mul (i - first) most in
          omega (arith, p.few)

      pub pieces_on : {c : ℕ} {lent' : List ℕ} → JudgedRuns g t q r (piece i) most found lent (Some c) lent' → length lent' ≡ length lent
          → PiecesLeft g t q r whole piece most c₀ lent₀ first last lent' c (i + 1)
      pieces_on {c} j s = record {
        whole_is = p.whole_is;
        left = left_on (good_runs g t (pieces_from piece last (i + 1))) (hits_of g t q r (pieces_from piece last (i + 1))) p.left good_next hits_next j.left;
        few = few_next c j.few;
        sized = s ∙ p.sized;
        low = omega (arith, p.low);
        high = omega arith;
        inside = p.inside;
        small = p.small;
      }

      pub pieces_bad : good_runs g t (piece i) ≡ false → good_runs g t whole ≡ false
      pieces_bad b = left_bad (good_runs g t (pieces_from piece last (i + 1))) p.left good_next b
