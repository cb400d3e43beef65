-- All that a question prints finds room: on a grid of at most 16 tiles a side, with at most 512 footprints and room for 512 hits, its text
-- has at most 16,384 bytes, and stands whole in an output of so many. Assumes nothing.
use mathlib.Core.Path.{◌≡◌, refl, ap, ◌∙◌}
use mathlib.Core.Bool.{Bool, true, false, not}
use mathlib.Core.List.{List, [], ◌++◌, append-nil}
use Prim.Native.Nat.{ℕ, ◌+◌, ◌*◌, ◌≤◌, ◌<◌}
use native.Mathlib.Nat.{mul-le-mul}
use native.Mathlib.Omega.{arith}
use lib.Dec.{ltb, eqb}
use lib.ListN.{length, take, drop}
use lib.Seq.{take_at, sets, sets-eq}
use borrow.Author.Tests.{ltb-false, ne_eqb}
use Rattle.laws.specs.Lists.{over}
use Rattle.laws.proofs.Tests.{by_bool}
use Rattle.rules.specs.Sizes.{most_radius, bad_sizes, bad_point}
use Rattle.rules.specs.Span.{gap}
use Rattle.rules.specs.Distance.{point, square}
use Rattle.rules.specs.Register.{count, rectangle}
use Rattle.rules.specs.Tables.{Tables, bad_lengths, good_runs}
use Rattle.rules.specs.Refusals.{Paper, paper, paper_answer, Verdict, pass, refuse, judge, unless, fit}
use Rattle.rules.specs.Search.{read_runs, radius_hits, search_verdict, searches}
use Rattle.rules.specs.Text.{refused_word, refusal_text, answer_text}
use Rattle.rules.specs.declared.Grid.{Grid}
use Rattle.rules.specs.declared.Point.{Point}
use Rattle.rules.specs.declared.Span.{Span}
use Rattle.rules.specs.declared.Refusal.{Refusal}
use Rattle.rules.specs.declared.Refusal.TheVariants.{Sizes, Lengths, Place, Radius, Damage, Room}
use Rattle.rules.proofs.Good.{good_sizes, on_grid, good_entry, good_rectangle}
use Rattle.rules.proofs.Lengths.{line_length, hits_length}
use Rattle.rules.proofs.Papers.{refused_number}
use Rattle.search.proofs.Left.{writes_are}
use Rattle.sheet.specs.Put.{Output}
use Rattle.sheet.proofs.Puts.{puts_room, puts_within}
use Rattle.answers.specs.Answers.{Named, bytes_of, Answers}
use Rattle.std.specs.Prelude.{Result, Ok}
use Rattle.answers.proofs.Hits.{hit_named}

-- ---- a refusal's text

abbrev Short : Refusal → Type 0
Short v = length (refusal_text (paper v)) ≤ 16384

abbrev ShortVerdict : Verdict → Type 0
ShortVerdict pass = Unit {0}
ShortVerdict (refuse v) = Short v

short : (v : Refusal) (k : ℕ) → k < 8 → (paper v).number ≡ k → Short v
unfolding refusal_text
short v k h e =
    let z : eqb (paper v).number 8 ≡ false = rw e (below k h) in
    let l = line_length refused_word 0 (paper v).number (omega arith) in
    rw (z, append-nil) (omega arith)
  where
    below : (k : ℕ) → k < 8 → eqb k 8 ≡ false
    below k h = ne_eqb k 8 (λ (d : k ≡ 8). omega arith)

judge_short : (b : Bool) (v : Refusal) (w : Verdict) → Short v → ShortVerdict w → ShortVerdict (judge b v w)
judge_short true v w s t = s
judge_short false v w s t = t

verdict_short : (g : Grid) (t : Tables) (q : Point) (r : ℕ) → ShortVerdict (search_verdict g t q r)
unfolding search_verdict paper
verdict_short g t q r =
    judge_short (bad_sizes g) Sizes _ (short Sizes 1 (omega arith) refl)
    (judge_short (bad_lengths g t) Lengths _ (short Lengths 2 (omega arith) refl)
    (judge_short (bad_point g q) Place _ (short Place 4 (omega arith) refl)
    (judge_short (ltb most_radius r) Radius _ (short Radius 5 (omega arith) refl)
    (judge_short (not (good_runs g t (read_runs g q r))) Damage pass (short Damage 7 (omega arith) refl) tt))))

-- ---- a hit's number and square

small_gap : (a b : Span) → a.lo < 262144 → b.lo < 262144 → gap a b ≤ 262144
unfolding gap
small_gap a b h k = omega arith

module _ (g : Grid) (few-tiles : g.n ≤ 16) where
  square_small : (reg : List ℕ) (q : Point) (i : ℕ) → Named g reg q i → square (point q) (rectangle g reg i) < 1000000000000
  unfolding square point
  square_small reg q i h =
      let m : g.n * g.side ≤ 262144 = mul-le-mul {n₂ = 16} {m₂ = 16384} few-tiles (good_sizes g h.placed.sizes).side_most in
      let o = on_grid g q h.placed.point in
      let a = good_rectangle g reg i (good_entry g reg i h.good).1 in
      let x = small_gap (point q).x (rectangle g reg i).x (omega (arith, o.x_on)) (omega (arith, a.in_x.ordered, a.in_x.inside)) in
      let y = small_gap (point q).y (rectangle g reg i).y (omega (arith, o.y_on)) (omega (arith, a.in_y.ordered, a.in_y.inside)) in
      let xx = mul-le-mul {n₂ = 262144} {m₂ = 262144} x x in
      let yy = mul-le-mul {n₂ = 262144} {m₂ = 262144} y y in
      omega arith

  module _ (t : Tables) (few : count t.reg ≤ 512) (q : Point) (r : ℕ) (hits₀ : List ℕ) (room : length hits₀ ≤ 512) where
    abbrev told : Paper × List ℕ → ℕ
    told a = length (answer_text g t.reg q a [])

    refused : (v : Refusal) → Short v → told (paper v, hits₀) ≤ 16384
    unfolding answer_text
    refused v s = rw (refused_number v) s

    abbrev hits : List ℕ
    hits = radius_hits g t q r

    found : search_verdict g t q r ≡ pass → length hits ≤ length hits₀ → told (paper_answer (Ok (length hits)), over hits hits₀) ≤ 16384
    unfolding answer_text paper_answer
    found e h =
        let z : take (length hits) (over hits hits₀) ≡ hits = take_at hits (drop (length hits) hits₀) (length hits) refl in
        rw (z, append-nil)
        (hits_length g t.reg q hits (omega arith)
        (λ i m.
        let n = hit_named g t q r e i m in
        (omega (arith, (good_entry g t.reg i n.good).0), square_small t.reg q i n)))

    outcome : (v : Verdict) → search_verdict g t q r ≡ v → ShortVerdict v
        → told (unless v (λ u. (paper u, hits₀)) (fit (length hits) hits hits₀)) ≤ 16384
    unfolding paper
    outcome pass e s =
        by_bool (ltb (length hits₀) (length hits))
        (λ b. rw b (refused (Room (length hits)) (short (Room (length hits)) 6 (omega arith) refl)))
        (λ b. rw b (found e (ltb-false (length hits₀) (length hits) b)))
    outcome (refuse v) e s = refused v s

    pub text_fits : length (answer_text g t.reg q (searches g t q r hits₀) []) ≤ 16384
    unfolding searches
    text_fits = rw (writes_are g t.reg q (radius_hits g t q r)) (outcome (search_verdict g t q r) refl (verdict_short g t q r))

    -- so an output of 16,384 bytes has it whole
    pub whole_text : (out₀ : List ℕ) → 16384 ≤ length out₀ → (a : Result ℕ ℕ) (kept out : List ℕ) → Answers g t q r hits₀ out₀ a kept out
        → take (bytes_of a) out ≡ answer_text g t.reg q (searches g t q r hits₀) []
    whole_text out₀ h a kept out w =
        let l = answer_text g t.reg q (searches g t q r hits₀) [] in
        let f = text_fits in
        let z : 0 + length l ≡ length l = omega arith in
        let e : ◌≡◌ {A = Output} (bytes_of a, out) (length l, sets out₀ 0 l) =
        w.text ∙ puts_room l 0 out₀ (omega arith) ∙ ap (λ (k : ℕ). (k, sets out₀ 0 l)) z in
        let x : bytes_of a ≡ length l = ap (λ (o : Output). o.0) e in
        let y : out ≡ sets out₀ 0 l = ap (λ (o : Output). o.1) e in
        let u : out ≡ l ++ drop (0 + length l) out₀ = y ∙ sets-eq l out₀ 0 (omega arith) in
        rw (x, u) (take_at l (drop (0 + length l) out₀) (length l) refl)

-- the text's end lies within the output, of whatever size
pub text_within : (g : Grid) (t : Tables) (q : Point) (r : ℕ) (hits₀ out₀ : List ℕ) (a : Result ℕ ℕ) (hits out : List ℕ)
    → Answers g t q r hits₀ out₀ a hits out → bytes_of a ≤ length out
text_within g t q r hits₀ out₀ a hits out w = rw (← w.text) at (puts_within (answer_text g t.reg q (searches g t q r hits₀) []) (0, out₀) (omega arith))
