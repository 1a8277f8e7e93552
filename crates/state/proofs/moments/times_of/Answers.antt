use Rattle.state.specs.Bank.{times_in}
use Rattle.state.proofs.moments.times_of.Goals as goal

pub returns : goal.returns
unfolding times_in
returns c = cc
