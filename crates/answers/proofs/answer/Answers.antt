-- The refusal's text, or the count and the hits that the search left.
use Rattle.std.proofs.Common.{◌≡◌, ◌≤◌, ℕ, List, length, take, sym, ap, ◌∙◌, rules}
use Rattle.std.proofs.Math.Seq.{length-take-le}
use Rattle.laws.specs.Lists.{each}
use Rattle.rules.specs.Text.{hit_of}
use Rattle.sheet.specs.Put.{output_of, puts}
use Rattle.answers.specs.Answers.{AllNamed, Answers}
use Rattle.rules.specs.Tables.{Tables}
use Rattle.rules.specs.declared.Grid.{Grid}
use Rattle.rules.specs.declared.Point.{Point}
use Rattle.std.specs.Prelude.{Result}
use Rattle.answers.proofs.Hits.{hits_stand, hits_named, done_answers, refused_answers}
-- the hits that are counted stand there
use Rattle.answers.proofs.answer.Goals.{In-Ok}
use Rattle.answers.proofs.answer.Goals as goal

-- the page was of the lent output
same_out : {g : Grid} {t : Tables} {q : Point} {r : ℕ} {hits₀ out₀ : List ℕ} {a : Result ℕ ℕ} {hits out out' : List ℕ}
    → out' ≡ out → Answers g t q r hits₀ out₀ a hits out → Answers g t q r hits₀ out₀ a hits out'
same_out e w = rw e w

-- the register that was read is that of the tables
same_register : {g : Grid} {t t' : Tables} {q : Point} {hits : List ℕ} → t ≡ t' → AllNamed g t'.reg q hits → AllNamed g t.reg q hits
same_register e w = rw e w

stand : (c : In-Ok) → c.in-Ok.count ≤ length c.search.new.out
stand c =
    let a = c.args in
    hits_stand a.g a.t.now a.q a.r a.hits.now _ _ _ c.in-Ok.is c.search.ensures

pub slice_bounds-put_hits-end : goal.slice_bounds-put_hits-end
slice_bounds-put_hits-end c = stand (goal.at.slice_bounds-put_hits-end c).In-Ok

pub slice_bounds-put_hits-end-in-Ok : goal.slice_bounds-put_hits-end-in-Ok
slice_bounds-put_hits-end-in-Ok c = sym (length-take-le _ _ (stand (goal.at.slice_bounds-put_hits-end-in-Ok c).In-Ok))

pub put_hits-requires : goal.put_hits-requires
put_hits-requires c =
    let a = c.args in
    same_register c.t.view_is (hits_named a.g a.t.now a.q a.r a.hits.now _ _ _ c.in-Ok.is c.search.ensures)

pub returns-in-Err : goal.returns-in-Err
returns-in-Err c =
    let a = c.args in
    same_out (search rules) (refused_answers a.g a.t.now a.q a.r a.hits.now _ _ _ c.in-Err.is c.search.ensures a.out.now _ _ c.put_refusal.ensures.text)

pub returns-in-Ok : goal.returns-in-Ok
returns-in-Ok c =
    let a = c.args in
    same_out (search rules) (done_answers a.g a.t.now a.q a.r a.hits.now _ _ _ c.in-Ok.is c.search.ensures a.out.now _ _ _ _ c.put_found.ensures.text
    (c.put_hits.ensures.text ∙ ap (λ (t : Tables). puts (each (hit_of a.g t.reg a.q) (take c.in-Ok.count c.search.new.out)) (output_of c.put_found.new.self)) c.t.view_is))
