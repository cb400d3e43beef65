use Rattle.std.proofs.Common.{refl, ◌∙◌, sym}
use Rattle.sheet.specs.Put.{output_of}
use Rattle.sheet.proofs.Puts.{no_room, put_one, puts_one}
use Rattle.sheet.proofs.print.Page.put_byte.Goals as goal

pub returns-then-self : goal.returns-then-self
returns-then-self c =
    let p = c.args.self.now in
    record { same = refl; text = put_one c.args.byte p.at p.out.now c.if-self.true ∙ sym (puts_one c.args.byte (output_of p)) }

pub returns-else-self : goal.returns-else-self
returns-else-self c =
    let p = c.args.self.now in
    record { same = refl; text = no_room c.args.byte p.at p.out.now c.if-self.false ∙ sym (puts_one c.args.byte (output_of p)) }
