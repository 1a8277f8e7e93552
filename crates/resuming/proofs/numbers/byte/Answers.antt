use Rattle.std.proofs.Common.{arith}
use Rattle.session.specs.Fields.{number}
use Rattle.resuming.proofs.numbers.byte.Goals as goal

pub returns : goal.returns
unfolding number
returns c = omega arith
