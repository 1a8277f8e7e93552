use Rattle.std.proofs.Common.{refl}
use Rattle.reach.specs.Reach.{page_ok}
use Rattle.reach.proofs.Cases.{page_next}
use Rattle.reach.proofs.page_ok.Goals as goal

pub loop-i-init : goal.loop-i-init
unfolding page_ok
loop-i-init c = refl

pub loop-i-preserved : goal.loop-i-preserved
loop-i-preserved c = page_next _ _ _ _ _ c.loop-i.invariant c.slot_ok-good.ensures
