use Rattle.system.specs.Calls.{held_of}
use Rattle.system.proofs.buttons.keys_held.Goals as goal

pub returns : goal.returns
unfolding held_of
returns c = c.keys_held.ensures
