-- The paper's numbers lose nothing: answers that differ, differ on paper. Assumes nothing.
use mathlib.Core.Path.{◌≡◌, refl, sym, ap, ◌∙◌}
use mathlib.Core.Bool.{Bool, false, true, cond}
use Prim.Native.Nat.{ℕ}
use lib.Dec.{eqb}
use lib.ListN.{length, get_or, drop}
use Rattle.std.specs.Prelude.{Result, Ok, Err}
use Rattle.rules.specs.Refusals.{Paper, says, paper, paper_answer, paper_listed, paper_checked, paper_ends}
use Rattle.rules.specs.declared.Part.{Part}
use Rattle.rules.specs.declared.Refusal.{Refusal}
use Rattle.rules.specs.declared.Refusal.TheVariants.{Sizes, Lengths, Footprint, Place, Radius, Damage, Room, Text}
use Rattle.rules.specs.declared.ListRefusal.{ListRefusal}
use Rattle.rules.specs.declared.ListRefusal.TheVariants.{At, Whole}

-- value k of an answer on paper
abbrev value : Paper → ℕ → ℕ
value p k = get_or p.values k 0

-- ---- read back from paper

abbrev refusal_on : Paper → Refusal
refusal_on p =
    cond (eqb p.number 1) Sizes
    (cond (eqb p.number 2) Lengths
    (cond (eqb p.number 3) (Footprint (value p 0))
    (cond (eqb p.number 4) Place
    (cond (eqb p.number 5) Radius
    (cond (eqb p.number 6) (Room (value p 0))
    (cond (eqb p.number 7) Damage (Text (value p 0))))))))

refusal_back : (r : Refusal) → refusal_on (paper r) ≡ r
unfolding paper
refusal_back Sizes = refl
refusal_back Lengths = refl
refusal_back (Footprint i) = refl
refusal_back Place = refl
refusal_back Radius = refl
refusal_back Damage = refl
refusal_back (Room need) = refl
refusal_back (Text line) = refl

-- no refusal has the number 0
pub refused_number : (r : Refusal) → eqb (paper r).number 0 ≡ false
unfolding paper
refused_number Sizes = refl
refused_number Lengths = refl
refused_number (Footprint i) = refl
refused_number Place = refl
refused_number Radius = refl
refused_number Damage = refl
refused_number (Room need) = refl
refused_number (Text line) = refl

answer_back : (a : Result ℕ Refusal) → cond (eqb (paper_answer a).number 0) (Ok (value (paper_answer a) 0)) (Err (refusal_on (paper_answer a))) ≡ a
unfolding paper_answer
answer_back (Ok v) = refl
answer_back (Err r) = rw (refused_number r) (ap Err (refusal_back r))

-- a probe's index in front of a refusal is one value more than the refusal has
abbrev listed_on : Paper → Result ℕ ListRefusal
listed_on p =
    cond (eqb p.number 0) (Ok (value p 0))
    (cond (eqb (length p.values) (length (paper (refusal_on p)).values)) (Err (Whole (refusal_on p)))
    (Err (At (refusal_on (says p.number (drop 1 p.values))) (value p 0))))

listed_back : (a : Result ℕ ListRefusal) → listed_on (paper_listed a) ≡ a
unfolding paper_listed paper
listed_back (Ok v) = refl
listed_back (Err (At Sizes i)) = refl
listed_back (Err (At Lengths i)) = refl
listed_back (Err (At (Footprint k) i)) = refl
listed_back (Err (At Place i)) = refl
listed_back (Err (At Radius i)) = refl
listed_back (Err (At Damage i)) = refl
listed_back (Err (At (Room need) i)) = refl
listed_back (Err (At (Text line) i)) = refl
listed_back (Err (Whole Sizes)) = refl
listed_back (Err (Whole Lengths)) = refl
listed_back (Err (Whole (Footprint k))) = refl
listed_back (Err (Whole Place)) = refl
listed_back (Err (Whole Radius)) = refl
listed_back (Err (Whole Damage)) = refl
listed_back (Err (Whole (Room need))) = refl
listed_back (Err (Whole (Text line))) = refl

checked_back : (a : Result Bool Refusal)
    → cond (eqb (paper_checked a).number 0) (Ok (eqb (value (paper_checked a) 0) 1)) (Err (refusal_on (paper_checked a))) ≡ a
unfolding paper_checked
checked_back (Ok true) = refl
checked_back (Ok false) = refl
checked_back (Err r) = rw (refused_number r) (ap Err (refusal_back r))

ends_back : (a : Result Part Refusal)
    → cond (eqb (paper_ends a).number 0) (Ok (record { begin = value (paper_ends a) 0; past = value (paper_ends a) 1 })) (Err (refusal_on (paper_ends a))) ≡ a
unfolding paper_ends
ends_back (Ok p) = refl
ends_back (Err r) = rw (refused_number r) (ap Err (refusal_back r))

-- ---- so equal papers are of equal answers

pub paper_loses_nothing : (a b : Refusal) → paper a ≡ paper b → a ≡ b
paper_loses_nothing a b e = sym (refusal_back a) ∙ ap refusal_on e ∙ refusal_back b

pub answers_same : (a b : Result ℕ Refusal) → paper_answer a ≡ paper_answer b → a ≡ b
answers_same a b e =
    sym (answer_back a)
    ∙ ap (λ (p : Paper). cond (eqb p.number 0) (Ok (value p 0)) (Err (refusal_on p))) e
    ∙ answer_back b

pub listed_same : (a b : Result ℕ ListRefusal) → paper_listed a ≡ paper_listed b → a ≡ b
listed_same a b e = sym (listed_back a) ∙ ap listed_on e ∙ listed_back b

pub checks_same : (a b : Result Bool Refusal) → paper_checked a ≡ paper_checked b → a ≡ b
checks_same a b e =
    sym (checked_back a)
    ∙ ap (λ (p : Paper). cond (eqb p.number 0) (Ok (eqb (value p 0) 1)) (Err (refusal_on p))) e
    ∙ checked_back b

pub ends_same : (a b : Result Part Refusal) → paper_ends a ≡ paper_ends b → a ≡ b
ends_same a b e =
    sym (ends_back a)
    ∙ ap (λ (p : Paper). cond (eqb p.number 0) (Ok (record { begin = value p 0; past = value p 1 })) (Err (refusal_on p))) e
    ∙ ends_back b
