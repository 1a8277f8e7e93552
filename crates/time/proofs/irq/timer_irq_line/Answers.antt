use Rattle.std.proofs.Common.{refl}
use Rattle.state.proofs.Each.{any_more}
use Rattle.time.specs.Irq.{timer_line}
use Rattle.time.proofs.irq.timer_irq_line.Goals as goal

pub loop-n-init : goal.loop-n-init
unfolding timer_line
loop-n-init c f = refl

pub loop-n-preserved : goal.loop-n-preserved
loop-n-preserved c f = any_more _ _ _ _ _ c.loop-n-test.true (c.pending_of-pending.ensures f) (c.loop-n.invariant f)
