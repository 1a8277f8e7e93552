use Rattle.std.proofs.Common.{◌∙◌, append_assoc}
use Rattle.lines.proofs.Laws.{hex_text}
use Rattle.lines.proofs.text.field.Goals as goal

pub returns-clause-text : goal.returns-clause-text
returns-clause-text c =
    let asked = c.requires in
    let digits = c.hex.ensures in
    let text = hex_text c.args.width c.args.n _ _ asked.some asked.most asked.fits digits.len digits.digits in
    c.push.ensures.items ∙ rw (c.append.ensures, text) (append_assoc c.args.out.now.items _ _)
