use Rattle.std.proofs.Common.{refl}
use Rattle.memory.specs.Access.{good_size}
use Rattle.memory.proofs.good_size.Goals as goal

pub returns : goal.returns
unfolding good_size
returns c = refl
