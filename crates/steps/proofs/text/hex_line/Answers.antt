use Rattle.std.proofs.Common.{ap, ◌∙◌, rules}
use Rattle.steps.specs.Text.{hex_line}
use Rattle.steps.proofs.Texts.{after, hex_text}
use Rattle.steps.proofs.text.hex_line.Goals as goal

pub returns : goal.returns
returns c =
    let text = hex_text c.from.result _ _ (search rules) c.hex.ensures.len c.hex.ensures.digits in
    after _ _ _ c.append.ensures c.push.ensures.items (text ∙ ap hex_line c.from.ensures)
