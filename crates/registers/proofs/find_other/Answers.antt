use Rattle.std.proofs.Common.{sym, ◌∙◌}
use Rattle.registers.proofs.Cases.{other_never, other_present, other_absent}
use Rattle.registers.proofs.find_other.Goals as goal

pub returns-then-unstored : goal.returns-then-unstored
returns-then-unstored c = other_never _ _ (sym c.unstored.ensures ∙ c.if-unstored.true)

pub returns-then-addresses-i : goal.returns-then-addresses-i
returns-then-addresses-i c =
    other_present _ _ _ c.place-i.ensures.value (sym c.unstored.ensures ∙ c.if-unstored.false)
    c.if-addresses-i.true

pub returns : goal.returns
returns c =
    other_absent _ _ _ c.place-i.ensures.value (sym c.unstored.ensures ∙ c.if-unstored.false)
    c.if-addresses-i.false
