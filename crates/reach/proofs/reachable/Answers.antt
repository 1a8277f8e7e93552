use Rattle.reach.specs.Reach.{reachable}
use Rattle.reach.proofs.reachable.Goals as goal

pub returns : goal.returns
unfolding reachable
returns c = cc
