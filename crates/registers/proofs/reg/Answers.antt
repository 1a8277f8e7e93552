use Rattle.registers.specs.Words.{word_at}
use Rattle.registers.proofs.reg.Goals as goal

pub returns : goal.returns
unfolding word_at
returns c = rw (← c.find.ensures) c.word_in.ensures
