-- The promise of an answer has one answer: two that meet it are equal, with the lent memories after them. Assumes nothing.
use mathlib.Core.Path.{◌≡◌, sym, ap, ◌∙◌}
use mathlib.Core.List.{List}
use Prim.Native.Nat.{ℕ}
use Rattle.rules.specs.Tables.{Tables}
use Rattle.rules.specs.declared.Grid.{Grid}
use Rattle.rules.specs.declared.Point.{Point}
use Rattle.sheet.specs.Put.{Output}
use Rattle.answers.specs.Answers.{bytes_of, is_refusal, Answers}
use Rattle.std.specs.Prelude.{Result, Ok, Err}

-- a text's length, and whether it is a refusal, are all that an answer says
says_all : (a b : Result ℕ ℕ) → bytes_of a ≡ bytes_of b → is_refusal a ≡ is_refusal b → a ≡ b
says_all (Ok m) (Ok n) e f = ap Ok e
says_all (Ok m) (Err n) e f = cc
says_all (Err m) (Ok n) e f = cc
says_all (Err m) (Err n) e f = ap Err e

pub answer_once : (g : Grid) (t : Tables) (q : Point) (r : ℕ) (hits₀ out₀ : List ℕ) (a b : Result ℕ ℕ) (h k o p : List ℕ)
    → Answers g t q r hits₀ out₀ a h o → Answers g t q r hits₀ out₀ b k p → (a ≡ b) × (h ≡ k) × (o ≡ p)
answer_once g t q r hits₀ out₀ a b h k o p d e =
    let s : ◌≡◌ {A = Output} (bytes_of a, o) (bytes_of b, p) = d.text ∙ sym e.text in
    (says_all a b (ap (λ (x : Output). x.0) s) (d.ends ∙ sym e.ends), d.kept ∙ sym e.kept, ap (λ (x : Output). x.1) s)
