use Rattle.std.proofs.Common.{refl}
use Rattle.memory.specs.Access.{shifted}
use Rattle.memory.proofs.shift.Goals as goal

pub returns : goal.returns
unfolding shifted
returns c = refl
