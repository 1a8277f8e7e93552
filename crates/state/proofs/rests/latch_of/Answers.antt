use Rattle.state.specs.Bank.{latch_in}
use Rattle.state.proofs.rests.latch_of.Goals as goal

pub returns : goal.returns
unfolding latch_in
returns c = rw c.low.ensures
