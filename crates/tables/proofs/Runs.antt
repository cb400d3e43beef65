-- A run's ends by its two starts: past the other refusals, and what the ends told say of the verdict. Assumes nothing.
use mathlib.Core.Path.{◌≡◌, refl, sym, ap, ◌∙◌}
use mathlib.Core.Bool.{false}
use mathlib.Core.List.{List, []}
use Prim.Native.Nat.{ℕ, ◌+◌, ◌*◌, ◌≤◌, ◌<◌}
use native.Mathlib.Nat.{zero-add}
use native.Mathlib.Omega.{arith}
use lib.Dec.{eqb, leb, ltb}
use lib.ListN.{get_or, length}
use borrow.Author.Tests.{ltb-false, leb-false, eqb-true, not-false}
use Rattle.laws.specs.Lists.{part}
use Rattle.laws.proofs.Tests.{clash, neither}
use Rattle.rules.specs.Sizes.{bad_sizes, most_entries, tile_count}
use Rattle.rules.specs.Tables.{runs, bad_starts, bad_ends, run_no, run_start, run_end}
use Rattle.rules.specs.Refusals.{Paper, paper, paper_ends, Verdict, pass, refuse, judge, unless}
use Rattle.rules.specs.Build.{bad_run, run_verdict, run_ends, run_place, run_part, shifted, hands_back}
use Rattle.rules.specs.declared.Grid.{Grid}
use Rattle.rules.specs.declared.Refusal.{Refusal}
use Rattle.rules.specs.declared.Refusal.TheVariants.{Damage}
use Rattle.std.specs.Prelude.{Ok}
use Rattle.rules.proofs.Papers.{refused_number}
use Rattle.tables.proofs.Verdicts.{judge_pass}

-- past the other refusals the two starts are judged
pub ends_judged : (g : Grid) (starts : List ℕ) (entries t class : ℕ) → bad_sizes g ≡ false → bad_starts g starts ≡ false → bad_run g t class ≡ false
    → (a e : ℕ) → a ≡ run_start starts (run_no t class) → e ≡ run_end starts (run_no t class)
    → unless (judge (bad_ends entries a e) Damage pass) paper (paper_ends (Ok (record { begin = a; past = e }))) ≡ run_ends g starts entries t class
unfolding run_ends run_verdict
ends_judged g starts entries t class sizes lengths place a e ea ee = rw (sizes, lengths, place, ea, ee)

-- the starts of a run that is not refused 2 or 4 stand in the table
pub run_there : (g : Grid) (starts : List ℕ) (t class : ℕ) → bad_starts g starts ≡ false → bad_run g t class ≡ false → 16 * t + class + 1 < length starts
unfolding bad_starts bad_run runs
run_there g starts t class h k =
    let e = eqb-true (length starts) (16 * tile_count g + 1) (not-false _ h) in
    let u = neither (leb (tile_count g) t) (leb 16 class) k in
    let v = leb-false (tile_count g) t u.0 in
    let w = leb-false 16 class u.1 in
    omega arith

-- ends that are told passed every judge
pub told_at : (v : Verdict) (x y a e : ℕ) → paper_ends (Ok (record { begin = a; past = e })) ≡ unless v paper (paper_ends (Ok (record { begin = x; past = y }))) → (v ≡ pass) × (a ≡ x) × (e ≡ y)
unfolding paper_ends
told_at pass x y a e h = (
  refl,
  ap (λ (p : Paper). get_or p.values 0 0) h,
  ap (λ (p : Paper). get_or p.values 1 0) h,
)
told_at (refuse r) x y a e h = clash (ap (λ (p : Paper). eqb p.number 0) h ∙ refused_number r)

-- a refusal that is told is one
pub told_refused : (v : Verdict) (x y : ℕ) (q : Refusal) → paper q ≡ unless v paper (paper_ends (Ok (record { begin = x; past = y }))) → (r : Refusal) × (v ≡ refuse r)
unfolding paper_ends
told_refused pass x y q h = clash (sym (ap (λ (p : Paper). eqb p.number 0) h) ∙ refused_number q)
told_refused (refuse r) x y q h = (r, refl)

pub good_ends : (entries a e : ℕ) → bad_ends entries a e ≡ false → (a ≤ e) × (e ≤ entries)
unfolding bad_ends
good_ends entries a e h =
    let u = neither _ (ltb most_entries e) h in
    let w = neither (ltb e a) (ltb entries e) u.0 in
    (ltb-false e a w.0, ltb-false entries e w.1)

-- a run that is told lies among the entries
pub run_good : (g : Grid) (starts : List ℕ) (entries t class : ℕ) → run_verdict g starts entries t class ≡ pass
    → (run_start starts (run_no t class) ≤ run_end starts (run_no t class)) × (run_end starts (run_no t class) ≤ entries)
unfolding run_verdict
run_good g starts entries t class h =
    let a = judge_pass (bad_sizes g) _ _ h in
    let b = judge_pass (bad_starts g starts) _ _ a.1 in
    let d = judge_pass (bad_run g t class) _ _ b.1 in
    good_ends entries (run_start starts (run_no t class)) (run_end starts (run_no t class)) (judge_pass _ Damage pass d.1).0

-- ---- the part that is handed back

module _ (g : Grid) (starts entries : List ℕ) (t class : ℕ) (ptr : ℕ × ℕ) where
  module _ (a e : ℕ) (told : paper_ends (Ok (record { begin = a; past = e })) ≡ run_ends g starts (length entries) t class) where
    ends_told : (run_verdict g starts (length entries) t class ≡ pass) × (a ≡ run_start starts (run_no t class)) × (e ≡ run_end starts (run_no t class))
    unfolding run_ends
    ends_told = told_at (run_verdict g starts (length entries) t class) (run_start starts (run_no t class)) (run_end starts (run_no t class)) a e told

    pub part_good : (a ≤ e) × (e ≤ length entries)
    part_good =
        let r = run_good g starts (length entries) t class ends_told.0 in
        let x = ends_told.1 in
        let y = ends_told.2 in
        (omega arith, omega arith)

    -- the part between the ends
    pub part_told : (shifted a ptr, part entries a e) ≡ hands_back g starts entries t class ptr
    unfolding hands_back run_place run_part
    part_told = rw (ends_told.0, ends_told.1, ends_told.2)

  -- every refusal: the empty part at the entries' beginning
  pub part_refused : (q : Refusal) → paper q ≡ run_ends g starts (length entries) t class → (ptr, []) ≡ hands_back g starts entries t class ptr
  unfolding run_ends hands_back run_place run_part
  part_refused q told =
      let r = told_refused (run_verdict g starts (length entries) t class) (run_start starts (run_no t class)) (run_end starts (run_no t class)) q told in
      rw r.1 (ap (λ (o : ℕ). ((ptr.0, o), [])) (sym (zero-add ptr.1)))
