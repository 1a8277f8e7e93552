use Rattle.std.proofs.Common.{refl}
use Rattle.state.proofs.Each.{through_more}
use Rattle.time.specs.Next.{with_timers}
use Rattle.time.proofs.next.with_timers.Goals as goal

pub loop-n-init : goal.loop-n-init
unfolding with_timers
loop-n-init c = refl

pub loop-n-preserved : goal.loop-n-preserved
loop-n-preserved c = through_more _ _ _ _ _ c.loop-n-test.true c.with_timer-t.ensures c.loop-n.invariant
