use Rattle.whole.proofs.Good.{turbo_bits}
use Rattle.whole.proofs.limits.turbo_bits.Goals as goal

pub returns : goal.returns
returns c = turbo_bits c.args.bits
