-- Bytes put into an output one behind the other, as far as it has room. Assumes nothing.
use Rattle.std.specs.Prelude.{◌≡◌, cond, List, [], ◌∷◌, ℕ, ◌+◌, ltb, length, set}
use Rattle.sheet.specs.declared.print.Page.{Page}

-- the place that comes next, and the output
abbrev pub Output : Type 0
Output = ℕ × List ℕ

-- a byte put at the next place; where the output ends, nothing is put
unfoldable pub put : ℕ → Output → Output
put b o = cond (ltb o.0 (length o.1)) (o.0 + 1, set o.1 o.0 b) o

unfoldable pub puts : List ℕ → Output → Output
puts [] o = o
puts (b ∷ l) o = puts l (put b o)

-- what a page holds
abbrev pub output_of : Page → Output
output_of p = (p.at, p.out.now)

-- bytes put on a page, which is still of the same output
pub record Puts (old : Page) (l : List ℕ) (new : Page) : Type 0 where
  pub same : new.out.ghost_name ≡ old.out.ghost_name
  pub text : output_of new ≡ puts l (output_of old)
