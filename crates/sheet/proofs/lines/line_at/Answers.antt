use Rattle.std.proofs.Common.{arith, ◌≡◌, ◌∙◌, drop, ap₂, sym}
use Rattle.std.proofs.lemmas.Grind.{common_steps}
use Rattle.rules.proofs.Counted.{follow_wordy}
use Rattle.rules.specs.Text.{word, begins_with}
use Rattle.sheet.specs.Places.{key_of}
use Rattle.sheet.specs.declared.lines.Key.TheVariants.{Start}
use Rattle.sheet.proofs.Words.{begins_so, read_past, here, this_key, other_key, no_key}
-- what was tested is whether the key's word stands at the place
use Rattle.sheet.proofs.lines.line_at.Goals.{After-starts_with}
use Rattle.sheet.proofs.lines.line_at.Goals as goal

tested : (c : After-starts_with) → c.starts_with.result ≡ begins_with (word (here c.followers-key-items.result.now c.loop-key.key-index Start)) (drop c.args.at c.args.text.now)
tested c =
    let e : c.in_ok-rest.rest.now ≡ drop c.args.at c.args.text.now = grind (arith, common_steps) in
    c.starts_with.ensures.value ∙ begins_so c.word-word.result.now c.in_ok-rest.rest.now ∙ ap₂ begins_with c.word-word.ensures e

pub returns-in_err-rest : goal.returns-in_err-rest
returns-in_err-rest c = c.from_residual.ensures ∙ read_past _ c.args.text.now c.args.at (follow_wordy (key_of c.args.last)) (omega (arith, c.in_err-rest.ensures.lookup))

pub returns-then-starts_with : goal.returns-then-starts_with
returns-then-starts_with c =
    let a = c.args in
    let t = tested (goal.at.returns-then-starts_with c).After-starts_with in
    rw c.word-word.ensures at c.number_line.ensures
    ∙ this_key c.followers-key-items.result.now c.loop-key.key-index Start c.loop-key-test.true a.text.now a.at (sym t ∙ c.if-starts_with.true)
    ∙ c.loop-key.invariant

pub loop-key-preserved : goal.loop-key-preserved
loop-key-preserved c =
    let a = c.args in
    let t = tested (goal.at.loop-key-preserved c).After-starts_with in
    other_key c.followers-key-items.result.now c.loop-key.key-index Start c.loop-key-test.true a.text.now a.at (sym t ∙ c.if-starts_with.false)
    ∙ c.loop-key.invariant

pub returns : goal.returns
returns c = no_key c.followers-key-items.result.now c.loop-key.key-index c.args.text.now c.args.at (omega arith) ∙ c.loop-key.invariant
