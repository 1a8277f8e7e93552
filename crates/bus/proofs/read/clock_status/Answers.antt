use Rattle.bus.specs.Read.{status_of}
use Rattle.bus.proofs.read.clock_status.Goals as goal

pub returns : goal.returns
unfolding status_of
returns c = cc
