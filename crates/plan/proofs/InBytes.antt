-- From the numbers to the bytes: what is refused before the numbers are judged, and that what a call leaves in the numbers it leaves in the bytes.
-- Assumes nothing.
use mathlib.Core.Path.{◌≡◌, refl, sym, ap, ap₂, ◌∙◌}
use mathlib.Core.Bool.{Bool, true, false, ◌||◌}
use mathlib.Core.List.{List, [], ◌∷◌}
use Prim.Native.Nat.{ℕ, ◌%◌}
use lib.ListN.{length}
use borrow.Author.Tests.{eqb-true, not-false}
use Rattle.laws.specs.Lists.{any}
use Rattle.laws.proofs.Tests.{clash, neither}
use Rattle.rules.specs.Sizes.{bad_sizes}
use Rattle.rules.specs.Tables.{tables}
use Rattle.rules.specs.Refusals.{Paper, paper, pass, refuse, judge}
use Rattle.rules.specs.Build.{builds, checks}
use Rattle.rules.specs.Search.{searches}
use Rattle.rules.specs.Bytes.{words, bytes, off_four, bytes_verdict, word_tables, in_bytes₁, in_bytes₂, builds_bytes, checks_bytes, searches_bytes}
use Rattle.rules.specs.declared.Grid.{Grid}
use Rattle.rules.specs.declared.Point.{Point}
use Rattle.rules.specs.declared.Refusal.{Refusal}
use Rattle.rules.specs.declared.Refusal.TheVariants.{Sizes, Lengths}
use Rattle.tables.proofs.Verdicts.{pass_not_refuse, judge_pass}
use Rattle.rules.proofs.Bytes.{Below, bytes_words}

-- ---- one table

pub on_four : (s : List ℕ) → off_four s ≡ false → length s % 4 ≡ 0
unfolding off_four
on_four s h = eqb-true _ 0 (not-false _ h)

-- a table that a call leaves is the bytes of its numbers
pub left_bytes : (s s₀ : List ℕ) → off_four s₀ ≡ false → length s ≡ length s₀ → Below 256 s → s ≡ bytes (words s)
left_bytes s s₀ h e b = sym (bytes_words s b (ap (λ (n : ℕ). n % 4) e ∙ on_four s₀ h))

-- ---- what is refused before the numbers are looked at

-- what is refused of some slices is refused of more
refused_of_more : (s a b : Bool) (v : Refusal) → (a ≡ true → b ≡ true) → judge s Sizes (judge a Lengths pass) ≡ refuse v → judge s Sizes (judge b Lengths pass) ≡ refuse v
refused_of_more true a b v f e = e
refused_of_more false true b v f e = rw (f refl) e
refused_of_more false false b v f e = absurd (pass_not_refuse v (sym e))

fourth : (a b c d : Bool) → (a || (b || (c || false))) ≡ true → (a || (b || (c || (d || false)))) ≡ true
fourth true b c d e = refl
fourth false true c d e = refl
fourth false false true d e = refl
fourth false false false d e = clash (sym e)

passed : (g : Grid) (l : List (List ℕ)) → bytes_verdict g l ≡ pass → (bad_sizes g ≡ false) × (any off_four l ≡ false)
unfolding bytes_verdict
passed g l e = let s = judge_pass (bad_sizes g) Sizes _ e in (s.0, (judge_pass (any off_four l) Lengths pass s.1).0)

-- ---- build and check

module _ (g : Grid) (reg starts entries : List ℕ) where
  abbrev lent : List (List ℕ)
  lent = reg ∷ starts ∷ entries ∷ []

  module _ (v : Refusal) (e : bytes_verdict g lent ≡ refuse v) where
    pub build_refused : (paper v, starts, entries) ≡ builds_bytes g reg starts entries
    unfolding builds_bytes
    build_refused = rw e

    pub check_refused : paper v ≡ checks_bytes g reg starts entries
    unfolding checks_bytes
    check_refused = rw e

  module _ (ok : bytes_verdict g lent ≡ pass) where
    pub check_bytes : (p : Paper) → p ≡ checks g (words reg) (words starts) (words entries) → p ≡ checks_bytes g reg starts entries
    unfolding checks_bytes
    check_bytes p h = rw ok h

    -- the starts and the entries have byte lengths on four
    both_on : (off_four starts ≡ false) × (off_four entries ≡ false)
    both_on =
        let r = neither (off_four starts) (any off_four (entries ∷ [])) (neither (off_four reg) (any off_four (starts ∷ entries ∷ [])) (passed g lent ok).1).1 in
        (r.0, (neither (off_four entries) false r.1).0)

    pub build_bytes : (p : Paper) (s x : List ℕ) → Below 256 s → Below 256 x → length s ≡ length starts → length x ≡ length entries
        → (p, words s, words x) ≡ builds g (words reg) (words starts) (words entries) → (p, s, x) ≡ builds_bytes g reg starts entries
    unfolding builds_bytes
    build_bytes p s x bs bx ls lx h =
        rw ok
        (ap₂ (λ (a b : List ℕ). (p, a, b)) (left_bytes s starts both_on.0 ls bs) (left_bytes x entries both_on.1 lx bx) ∙ ap in_bytes₂ h)

-- ---- search: the output's byte length is judged behind those of the tables

module _ (g : Grid) (reg starts entries : List ℕ) (q : Point) (r : ℕ) (out : List ℕ) where
  pub search_refused : (v : Refusal) → bytes_verdict g (lent g reg starts entries) ≡ refuse v → (paper v, out) ≡ searches_bytes g reg starts entries q r out
  unfolding searches_bytes bytes_verdict
  search_refused v e =
      rw (refused_of_more (bad_sizes g) (any off_four (lent g reg starts entries)) (any off_four (reg ∷ starts ∷ entries ∷ out ∷ [])) v (fourth (off_four reg) (off_four starts) (off_four entries) (off_four out)) e)

  module _ (ok : bytes_verdict g (lent g reg starts entries) ≡ pass) where
    tables_on : (bad_sizes g ≡ false) × (off_four reg ≡ false) × (off_four starts ≡ false) × (off_four entries ≡ false)
    tables_on =
        let p = passed g (lent g reg starts entries) ok in
        let u = neither (off_four reg) _ p.1 in
        let v = neither (off_four starts) _ u.1 in
        (p.0, u.0, v.0, (neither (off_four entries) false v.1).0)

    pub search_lengths : off_four out ≡ true → (paper Lengths, out) ≡ searches_bytes g reg starts entries q r out
    unfolding searches_bytes bytes_verdict
    search_lengths o = rw (tables_on.0, tables_on.1, tables_on.2, tables_on.3, o)

    pub search_bytes : off_four out ≡ false → (p : Paper) (out' : List ℕ) → length out' ≡ length out → Below 256 out'
        → ◌≡◌ {A = Paper × List ℕ} (p, words out') (searches g (tables (words reg) (words starts) (words entries)) q r (words out))
        → (p, out') ≡ searches_bytes g reg starts entries q r out
    unfolding searches_bytes bytes_verdict word_tables
    search_bytes o p out' n below e =
        rw (tables_on.0, tables_on.1, tables_on.2, tables_on.3, o) (ap (λ (l : List ℕ). (p, l)) (left_bytes out' out o n below) ∙ ap in_bytes₁ e)
