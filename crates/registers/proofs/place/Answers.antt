use Rattle.std.proofs.Common.{arith}
use Rattle.registers.specs.Words.{halving, place}
use Rattle.registers.proofs.place.Goals as goal

pub returns : goal.returns
unfolding place halving
returns c = record {
  value = cc;
  upper_bound = omega arith;
}
