use Rattle.registers.specs.Words.{unstored}
use Rattle.registers.proofs.unstored.Goals as goal

pub returns : goal.returns
unfolding unstored
returns c = rw c.day_word.ensures
