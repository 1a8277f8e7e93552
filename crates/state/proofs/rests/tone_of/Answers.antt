use Rattle.state.specs.Bank.{tone_in}
use Rattle.state.proofs.rests.tone_of.Goals as goal

pub returns : goal.returns
unfolding tone_in
returns c = cc
