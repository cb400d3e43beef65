-- Each promise has one answer: two answers that meet it are equal, with the lent memory after them. Assumes nothing.
use mathlib.Core.Path.{◌≡◌, refl, sym, ap, ◌∙◌}
use mathlib.Core.List.{List}
use Prim.Native.Nat.{ℕ}
use Rattle.rules.specs.Text.{sheet_verdict}
use Rattle.rules.specs.declared.Grid.{Grid}
use Rattle.rules.specs.Refusals.{as_verdict}
use Rattle.sheet.specs.Places.{decimal_at}
use Rattle.sheet.specs.Put.{Output, puts, Puts}
use Rattle.sheet.specs.Sheets.{judges}
use Rattle.sheet.specs.declared.print.Page.{Page}
use Rattle.sheet.specs.declared.decimals.Decimal.{Decimal}
use Rattle.sheet.specs.declared.judging.Sheet.{Sheet}
use Rattle.rules.specs.declared.Refusal.{Refusal}
use Rattle.std.specs.Prelude.{Option, Result, Ok, Err}

pub judge_once : (text numbers : List ℕ) (r r' : Result Sheet Refusal) (n n' : List ℕ)
    → ◌≡◌ {A = Result Sheet Refusal × List ℕ} (r, n) (judges text numbers) → ◌≡◌ {A = Result Sheet Refusal × List ℕ} (r', n') (judges text numbers) → (r ≡ r') × (n ≡ n')
judge_once text numbers r r' n n' e f =
    (ap (λ (t : Result Sheet Refusal × List ℕ). t.0) (e ∙ sym f), ap (λ (t : Result Sheet Refusal × List ℕ). t.1) (e ∙ sym f))

-- limits that differ, differ as verdicts
limits_same : (a b : Result (Unit {0}) Refusal) → as_verdict a ≡ as_verdict b → a ≡ b
limits_same (Ok u) (Ok v) e = refl
limits_same (Ok u) (Err r) e = cc
limits_same (Err r) (Ok u) e = cc
limits_same (Err r) (Err s) e = cc

pub within_once : (g : Grid) (footprints : ℕ) (r r' : Result (Unit {0}) Refusal) → as_verdict r ≡ sheet_verdict g footprints → as_verdict r' ≡ sheet_verdict g footprints
    → r ≡ r'
within_once g footprints r r' e f = limits_same r r' (e ∙ sym f)

pub number_once : (text : List ℕ) (at : ℕ) (r r' : Option Decimal) → r ≡ decimal_at text at → r' ≡ decimal_at text at → r ≡ r'
number_once text at r r' e f = e ∙ sym f

-- every function that puts bytes promises the place and the output
pub puts_once : (l : List ℕ) (o : Output) (r r' : ℕ) (n n' : List ℕ)
    → ◌≡◌ {A = Output} (r, n) (puts l o) → ◌≡◌ {A = Output} (r', n') (puts l o) → (r ≡ r') × (n ≡ n')
puts_once l o r r' n n' e f = (ap (λ (t : Output). t.0) (e ∙ sym f), ap (λ (t : Output). t.1) (e ∙ sym f))

-- and so does every method of a page
pub page_once : (l : List ℕ) (p q r : Page) → Puts p l q → Puts p l r → (q.at ≡ r.at) × (q.out.now ≡ r.out.now)
page_once l p q r e f = puts_once l (p.at, p.out.now) q.at r.at q.out.now r.out.now e.text f.text
