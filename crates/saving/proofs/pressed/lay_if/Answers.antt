use Rattle.std.proofs.Common.{sym, ◌∙◌}
use Rattle.saving.proofs.Laid.{none_laid}
use Rattle.saving.proofs.pressed.lay_if.Goals as goal

-- src/pressed.rt:49:9
pub lay_press-requires : goal.lay_press-requires
lay_press-requires c =
    rw (sym c.waits.ensures ∙ c.if-waits.true) at c.requires

-- src/pressed.rt:49:9
pub returns-then-waits : goal.returns-then-waits
returns-then-waits c =
    rw (sym c.waits.ensures ∙ c.if-waits.true) c.lay_press.ensures

-- src/pressed.rt:44:1
pub returns : goal.returns
returns c = rw (sym c.waits.ensures ∙ c.if-waits.false) (none_laid _ _)
