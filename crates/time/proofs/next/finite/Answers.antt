use Rattle.std.proofs.Common.{rules}
use lib.Ieee.{le, neg, of_bits}
use Rattle.time.proofs.next.finite.Goals as goal

pub returns : goal.returns
unfolding le neg of_bits
returns c = search rules
