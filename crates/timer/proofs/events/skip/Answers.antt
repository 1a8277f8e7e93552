use Rattle.std.proofs.Common.{lt-ltb, le-ltb}
use Rattle.timer.specs.Events.{skipped}
use Rattle.timer.proofs.events.skip.Goals as goal

pub returns-then-n-count : goal.returns-then-n-count
unfolding skipped
returns-then-n-count c = rw (lt-ltb _ _ c.if-n-count.true, ← c.place.ensures)

pub returns : goal.returns
unfolding skipped
returns c = rw (le-ltb _ _ c.if-n-count.false)
