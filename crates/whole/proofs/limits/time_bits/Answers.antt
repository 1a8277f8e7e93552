use Rattle.whole.proofs.Good.{time_bits}
use Rattle.whole.proofs.limits.time_bits.Goals as goal

pub returns : goal.returns
returns c = time_bits c.args.bits
