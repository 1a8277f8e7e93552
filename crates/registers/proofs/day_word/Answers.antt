use Rattle.std.proofs.Common.{refl}
use Rattle.registers.specs.Ports.{day_word}
use Rattle.registers.proofs.day_word.Goals as goal

pub returns : goal.returns
unfolding day_word
returns c = refl
