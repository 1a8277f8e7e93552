use Rattle.state.specs.Bank.{ring_in}
use Rattle.state.proofs.rests.ring_of.Goals as goal

pub returns : goal.returns
unfolding ring_in
returns c = rw c.byte.ensures
