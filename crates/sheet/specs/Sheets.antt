-- What the judge answers for a text, and the numbers that it leaves. Assumes nothing.
use Rattle.std.specs.Prelude.{List, ℕ, length, Result, Ok, Err}
use Rattle.laws.specs.Lists.{over}
use Rattle.rules.specs.Refusals.{pass, judge_room, unless}
use Rattle.rules.specs.Text.{Told, judged}
use Rattle.rules.specs.declared.Refusal.{Refusal}
use Rattle.sheet.specs.declared.judging.Sheet.{Sheet}

-- a line has 4 bytes or more, so a text of 65,536 bytes says 16,384 numbers at most
abbrev pub most_numbers : ℕ
most_numbers = 16384

-- what a text says
abbrev pub said : ℕ → ℕ → Sheet
said n f = record { numbers = n; footprints = f }

unfoldable pub sheet_of : Told → Result Sheet Refusal
sheet_of t = unless t.verdict Err (Ok (said (length t.said) t.footprints))

-- the answer, and the numbers of the lines before the first bad or missing one written over those that were lent
unfoldable pub judges : List ℕ → List ℕ → Result Sheet Refusal × List ℕ
judges text numbers =
    unless (judge_room most_numbers numbers pass) (λ r. (Err r, numbers)) (sheet_of (judged text), over (judged text).said numbers)
