use Rattle.whole.proofs.Good.{game_bits}
use Rattle.whole.proofs.limits.game_bits.Goals as goal

-- src/limits.rt:21:1
pub returns : goal.returns
returns c = game_bits c.args.bits
