use Rattle.session.specs.Good.{in_step}
use Rattle.resuming.proofs.judge.in_step.Goals as goal

-- src/judge.rt:56:1
pub returns : goal.returns
unfolding in_step
returns c = rw (c.whole-ticks.ensures.cast, c.whole-syncs.ensures.cast)
