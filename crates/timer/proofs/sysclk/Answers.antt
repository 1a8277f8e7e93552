use Rattle.std.proofs.Common.{eq-eqb, ne_eqb}
use Rattle.timer.specs.Timers.{sysclk_of}
use Rattle.timer.proofs.sysclk.Goals as goal

pub returns-then-clock-eq0 : goal.returns-then-clock-eq0
unfolding sysclk_of
returns-then-clock-eq0 c = rw (eq-eqb _ _ c.if-clock-eq0.true)

pub returns-else-clock-eq0 : goal.returns-else-clock-eq0
unfolding sysclk_of
returns-else-clock-eq0 c = rw (ne_eqb _ _ c.if-clock-eq0.false)
