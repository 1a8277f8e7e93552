use Rattle.state.specs.Bank.{keys_in}
use Rattle.state.proofs.rests.keys_of.Goals as goal

pub returns : goal.returns
unfolding keys_in
returns c = rw c.low.ensures
