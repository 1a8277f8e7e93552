use Rattle.std.proofs.Common.{refl}
use Rattle.timer.specs.Events.{empty_queue}
use Rattle.timer.proofs.events.empty.Goals as goal

pub returns : goal.returns
unfolding empty_queue
returns c = refl
