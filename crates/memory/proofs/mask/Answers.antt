use Rattle.memory.proofs.Cases.{mask_word, mask_half, mask_byte}
use Rattle.memory.proofs.mask.Goals as goal

pub returns-then-size-eq4 : goal.returns-then-size-eq4
returns-then-size-eq4 c = mask_word _ _ c.if-size-eq4.true

pub returns-then-size-eq2 : goal.returns-then-size-eq2
returns-then-size-eq2 c = mask_half _ _ _ c.if-size-eq4.false c.if-size-eq2.true c.shift.ensures

pub returns : goal.returns
returns c = mask_byte _ _ _ c.if-size-eq4.false c.if-size-eq2.false c.shift-2.ensures
