use Rattle.registers.specs.Words.{own_with}
use Rattle.registers.proofs.own_insert.Goals as goal

pub returns : goal.returns
unfolding own_with
returns c = rw (← c.slot.ensures) c.slot_set.ensures
