use Rattle.timer.specs.Timers.{control_of}
use Rattle.timer.proofs.read_ctrl.Goals as goal

pub returns-then-t : goal.returns-then-t
unfolding control_of
returns-then-t c = rw c.if-t.true

pub returns-else-t : goal.returns-else-t
unfolding control_of
returns-else-t c = rw c.if-t.false
