use Rattle.state.specs.Bank.{panel_in}
use Rattle.state.proofs.panels.frames_of.Goals as goal

pub returns : goal.returns
unfolding panel_in
returns c = cc
