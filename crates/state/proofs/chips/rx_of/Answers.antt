use Rattle.state.specs.Bank.{chip_in}
use Rattle.state.proofs.chips.rx_of.Goals as goal

pub returns : goal.returns
unfolding chip_in
returns c = c.byte.ensures
