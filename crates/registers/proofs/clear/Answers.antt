use Rattle.std.proofs.Common.{refl}
use Rattle.registers.specs.Words.{fresh_registers}
use Rattle.registers.proofs.clear.Goals as goal

pub returns : goal.returns
unfolding fresh_registers
returns c = refl
