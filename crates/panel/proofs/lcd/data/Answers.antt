use Rattle.std.proofs.Common.{sym, ◌∙◌}
use Rattle.panel.proofs.Cases.{draws, argues}
use Rattle.panel.proofs.lcd.data.Goals as goal

pub returns-then-code-eq44 : goal.returns-then-code-eq44
returns-then-code-eq44 c =
    let at_code = c.code in
    let at_if = c.if-code-eq44 in
    draws _ _ _ _ _ (sym at_code.ensures ∙ at_if.true) c.paint-pen.ensures

pub returns : goal.returns
returns c =
    argues _ _ _ _ (λ e. c.if-code-eq44.false (c.code.ensures ∙ e))
    c.argument.ensures
