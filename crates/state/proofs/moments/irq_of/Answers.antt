use Rattle.state.specs.Bank.{irq_in}
use Rattle.state.proofs.moments.irq_of.Goals as goal

pub returns : goal.returns
unfolding irq_in
returns c = rw c.low.ensures
