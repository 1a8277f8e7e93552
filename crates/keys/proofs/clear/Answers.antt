use Rattle.keys.specs.Keys.{fresh_buttons}
use Rattle.keys.proofs.clear.Goals as goal

pub returns : goal.returns
unfolding fresh_buttons
returns c = rw c.fresh.ensures
