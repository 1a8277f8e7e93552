use Rattle.registers.specs.Words.{end_of}
use Rattle.registers.proofs.Cases.{absent_zero, absent_full, absent_room}
use Rattle.registers.proofs.put_absent.Goals as goal

pub returns-then-value-eq0 : goal.returns-then-value-eq0
returns-then-value-eq0 c = absent_zero _ _ _ _ c.if-value-eq0.true

pub returns-then-values-ne0 : goal.returns-then-values-ne0
returns-then-values-ne0 c = absent_full _ _ _ _ c.if-value-eq0.false c.if-values-ne0.true

pub returns : goal.returns
unfolding end_of
returns c =
    absent_room _ _ _ _ _ _ _ c.if-value-eq0.false c.if-values-ne0.false c.end_from-end.ensures.value
    c.shift_down.ensures.addresses_after
    c.shift_down.ensures.values_after
