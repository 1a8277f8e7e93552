use Rattle.registers.specs.Words.{own_at}
use Rattle.registers.proofs.own_reg.Goals as goal

pub returns : goal.returns
unfolding own_at
returns c = rw (← c.slot.ensures) c.get.ensures
