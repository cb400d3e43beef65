-- A text judged line by line: what was told so far, and what the lines that are left tell, is the whole. Assumes nothing.
use mathlib.Core.Path.{◌≡◌, refl, sym, ap, ◌∙◌}
use mathlib.Core.Bool.{Bool, true, false, not}
use mathlib.Core.List.{List, [], ◌∷◌, ◌++◌, append-nil}
use Prim.Native.Nat.{ℕ, suc, ◌+◌, ◌*◌, ◌≤◌, ◌<◌}
use native.Mathlib.Numerals.{add-one}
use native.Mathlib.Omega.{arith}
use lib.ListN.{length, take, drop, set, length-set, take-append-drop, drop_of_length-le}
use lib.Seq.{take-suc-set, drop-set-lt, drop-drop, length-take-le, append_snoc}
use borrow.Author.Tests.{lt-ltb, le-ltb}
use Rattle.std.specs.Prelude.{Some, None, Result, Ok, Err}
use Rattle.rules.specs.Refusals.{Verdict, pass, refuse, judge, unless}
use Rattle.rules.specs.Text as text
use Rattle.rules.specs.Text.{lines, follow, may_end, ends_footprint, Told, stopped, more, tells, judged}
use Rattle.rules.specs.declared.Refusal.{Refusal}
use Rattle.rules.specs.declared.Refusal.TheVariants.{Text, Room}
use Rattle.rules.proofs.Texts.{enough_bytes, too_many_bytes}
use Rattle.sheet.specs.Places.{key_of, read_at}
use Rattle.sheet.specs.Sheets.{most_numbers, said, sheet_of, judges}
use Rattle.sheet.specs.declared.lines.Key.{Key}
use Rattle.sheet.specs.declared.lines.Key.TheVariants as key
use Rattle.sheet.specs.declared.lines.Line.{Line}
use Rattle.sheet.specs.declared.judging.Sheet.{Sheet}
use Rattle.rules.proofs.Counted.{follow_wordy}
use Rattle.sheet.proofs.Reading.{read_behind, tells_bad, tells_more}

-- numbers and footprints told before, in front of what is told behind
abbrev pub before : List ℕ → ℕ → Told → Told
before s f t = record { said = s ++ t.said; footprints = f + t.footprints; verdict = t.verdict }

before_none : (t : Told) → before [] 0 t ≡ t
before_none t =
    let z : 0 + t.footprints ≡ t.footprints = omega arith in
    ap (λ (f : ℕ). before_with t f) z
  where
    before_with : Told → ℕ → Told
    before_with u f = record { said = u.said; footprints = f; verdict = u.verdict }

before_more : (s : List ℕ) (f : ℕ) (k : text.Key) (n : ℕ) (t : Told)
    → before s f (more k n t) ≡ before (s ++ (n ∷ [])) (f + ends_footprint k) t
before_more s f k n t =
    let z : f + (ends_footprint k + t.footprints) ≡ f + ends_footprint k + t.footprints = omega arith in
    rw (append_snoc, z)

-- the numbers read so far stand in front, the others are as they were lent
pub record Judging (bytes numbers₀ numbers : List ℕ) (last : Key) (at count footprints : ℕ) : Type 0 where
  pub within : at ≤ length bytes
  pub short : 4 * count ≤ at
  pub few : footprints ≤ count
  pub size : length numbers ≡ length numbers₀
  pub rest : drop count numbers ≡ drop count numbers₀
  pub whole : tells text.Start 1 (lines bytes) ≡ before (take count numbers) footprints (tells (key_of last) (count + 1) (lines (drop at bytes)))

pub judging_start : (bytes numbers : List ℕ) → Judging bytes numbers numbers key.Start 0 0 0
unfolding key_of
judging_start bytes numbers = record {
  within = omega arith;
  short = omega arith;
  few = omega arith;
  size = refl;
  rest = refl;
  whole = sym (before_none (tells text.Start 1 (lines bytes)));
}

-- a key ends a footprint, or none
one_footprint : (k : text.Key) → ends_footprint k ≤ 1
unfolding ends_footprint
one_footprint text.Start = omega arith
one_footprint text.Tiles = omega arith
one_footprint text.Side = omega arith
one_footprint text.Xlo = omega arith
one_footprint text.Ylo = omega arith
one_footprint text.Xhi = omega arith
one_footprint text.Yhi = omega arith
one_footprint text.X = omega arith
one_footprint text.Y = omega arith
one_footprint text.R = omega arith

module _ (bytes numbers₀ numbers : List ℕ) (last : Key) (at count footprints : ℕ)
    (i : Judging bytes numbers₀ numbers last at count footprints) (room : most_numbers ≤ length numbers₀) where
  -- ---- a line that says something

  module _ (m : length bytes ≤ 65536) (h : at < length bytes) (a : Line) (r : read_at (follow (key_of last)) bytes at ≡ Some a)
    where
      pub line_within : (at + 4 ≤ a.behind) × (a.behind ≤ length bytes)
      line_within =
          let b = read_behind (follow (key_of last)) bytes at a (follow_wordy (key_of last)) r in
          (b.1, b.2)

      pub few_more : (e : ℕ) → e ≡ ends_footprint (key_of a.key) → footprints + e ≤ count + 1
      few_more e z = omega (arith, i.few, one_footprint (key_of a.key))

      pub judging_line : (e : ℕ) → e ≡ ends_footprint (key_of a.key)
          → Judging bytes numbers₀ (set numbers count a.number) a.key a.behind (count + 1) (footprints + e)
      judging_line e z =
          let w = line_within in
          let c : count < length numbers = omega (arith, i.short, i.size) in
          let t = tells_more (key_of last) (count + 1) bytes at h a r in
          let o : count + 1 ≡ suc count = add-one count in
          let d : drop (count + 1) (set numbers count a.number) ≡ drop (count + 1) numbers = drop-set-lt (count + 1) numbers count a.number (omega arith) in
          let u : take (count + 1) (set numbers count a.number) ≡ take count numbers ++ (a.number ∷ []) = rw o (take-suc-set numbers count a.number c) in
          let v : suc (count + 1) ≡ count + 1 + 1 = sym (add-one (count + 1)) in
          record {
            within = w.1;
            short = omega (arith, i.short);
            few = few_more e z;
            size = length-set numbers count a.number ∙ i.size;
            rest = d ∙ sym (drop-drop 1 count numbers) ∙ ap (drop 1) i.rest ∙ drop-drop 1 count numbers₀;
            whole =
                i.whole
                ∙ ap (before (take count numbers) footprints) t
                ∙ before_more (take count numbers) footprints (key_of a.key) a.number (tells (key_of a.key) (suc (count + 1)) (lines (drop a.behind bytes)))
                ∙ rw (u, z, v);
          }

  -- ---- the end, at a line or behind the last

  finished : length bytes ≤ 65536 → (v : Verdict) → tells (key_of last) (count + 1) (lines (drop at bytes)) ≡ stopped v
      → ◌≡◌ {A = Result Sheet Refusal × List ℕ} (unless v Err (Ok (said count footprints)), numbers) (judges bytes numbers₀)
  unfolding judges sheet_of
  finished m v e =
      let c : count ≤ length numbers = omega (arith, i.short, i.size, i.within) in
      let b : judged bytes ≡ before (take count numbers) footprints (stopped v) =
      enough_bytes bytes m ∙ i.whole ∙ ap (before (take count numbers) footprints) e in
      let z : footprints + 0 ≡ footprints = omega arith in
      rw (le-ltb (length numbers₀) most_numbers room, b, append-nil, length-take-le count numbers c, z, ← i.rest, take-append-drop)

  pub judged_bad : length bytes ≤ 65536 → at < length bytes → read_at (follow (key_of last)) bytes at ≡ None
      → ◌≡◌ {A = Result Sheet Refusal × List ℕ} (Err (Text (count + 1)), numbers) (judges bytes numbers₀)
  judged_bad m h r = finished m (refuse (Text (count + 1))) (tells_bad (key_of last) (count + 1) bytes at h r)

  at_end : length bytes ≤ at → (b : Bool) → b ≡ may_end (key_of last)
      → tells (key_of last) (count + 1) (lines (drop at bytes)) ≡ stopped (judge (not b) (Text (count + 1)) pass)
  unfolding tells lines
  at_end h b e = rw (drop_of_length-le bytes h, e)

  pub judged_good : length bytes ≤ 65536 → length bytes ≤ at → (b : Bool) → b ≡ may_end (key_of last) → b ≡ true
      → ◌≡◌ {A = Result Sheet Refusal × List ℕ} (Ok (said count footprints), numbers) (judges bytes numbers₀)
  judged_good m h b e t = finished m pass (at_end h true (sym t ∙ e))

  pub judged_short : length bytes ≤ 65536 → length bytes ≤ at → (b : Bool) → b ≡ may_end (key_of last) → b ≡ false
      → ◌≡◌ {A = Result Sheet Refusal × List ℕ} (Err (Text (count + 1)), numbers) (judges bytes numbers₀)
  judged_short m h b e t = finished m (refuse (Text (count + 1))) (at_end h false (sym t ∙ e))

-- too many bytes
pub judged_long : (bytes numbers : List ℕ) → most_numbers ≤ length numbers → 65536 < length bytes
    → ◌≡◌ {A = Result Sheet Refusal × List ℕ} (Err (Text 0), numbers) (judges bytes numbers)
unfolding judges sheet_of
judged_long bytes numbers room h = rw (le-ltb (length numbers) most_numbers room, too_many_bytes bytes h)

-- too few numbers lent
pub judged_roomless : (bytes numbers : List ℕ) → length numbers < most_numbers
    → ◌≡◌ {A = Result Sheet Refusal × List ℕ} (Err (Room most_numbers), numbers) (judges bytes numbers)
unfolding judges
judged_roomless bytes numbers h = rw (lt-ltb (length numbers) most_numbers h)
