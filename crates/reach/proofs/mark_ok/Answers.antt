use Rattle.reach.specs.Reach.{mark_ok}
use Rattle.reach.proofs.mark_ok.Goals as goal

pub returns-then-t : goal.returns-then-t
unfolding mark_ok
returns-then-t c = rw c.if-t.true

pub returns : goal.returns
unfolding mark_ok
returns c = rw c.if-t.false
