use Rattle.whole.proofs.Words.{has_some, has_not}
use Rattle.timer.specs.Timers.{rate_of}
use Rattle.timer.proofs.rate.Goals as goal

pub returns-then-control-ne0 : goal.returns-then-control-ne0
unfolding rate_of
returns-then-control-ne0 c = rw (has_some _ _ c.if-control-ne0.true, ← c.sysclk-c.ensures)

pub returns-else-control-ne0 : goal.returns-else-control-ne0
unfolding rate_of
returns-else-control-ne0 c = rw (has_not _ _ c.if-control-ne0.false, ← c.sysclk-c.ensures)
