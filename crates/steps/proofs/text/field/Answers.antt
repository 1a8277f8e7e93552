use Rattle.std.proofs.Common.{[], ◌∷◌, rules}
use Rattle.steps.proofs.Texts.{after, field_text}
use Rattle.steps.proofs.text.field.Goals as goal

pub returns-clause-text : goal.returns-clause-text
returns-clause-text c =
    let digits = c.decimal-k.ensures in
    let text = field_text c.args.n c.decimal-k.result (search rules) digits.len digits.digits in
    after _ (32 ∷ []) _ c.push.ensures.items c.append.ensures text
