use Rattle.std.proofs.Common.{arith}
use Rattle.memory.proofs.Cases.{cut_word, cut_half, cut_byte}
use Rattle.memory.proofs.cut.Goals as goal

pub returns-then-size-eq4 : goal.returns-then-size-eq4
returns-then-size-eq4 c = cut_word _ _ _ (omega arith) c.if-size-eq4.true

pub returns-then-size-eq2 : goal.returns-then-size-eq2
returns-then-size-eq2 c = cut_half _ _ _ c.if-size-eq4.false c.if-size-eq2.true

pub returns : goal.returns
returns c = cut_byte _ _ _ c.if-size-eq4.false c.if-size-eq2.false
