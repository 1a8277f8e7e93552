use Rattle.std.proofs.Common.{refl}
use Rattle.state.proofs.Each.{any_more}
use Rattle.time.specs.Next.{any_pends}
use Rattle.time.proofs.next.each_pends.Goals as goal

pub loop-n-init : goal.loop-n-init
unfolding any_pends
loop-n-init c f = refl

pub loop-n-preserved : goal.loop-n-preserved
loop-n-preserved c f = any_more _ _ _ _ _ c.loop-n-test.true (c.pends-any.ensures f) (c.loop-n.invariant f)
