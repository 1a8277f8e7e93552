use Rattle.session.specs.Good.{good_event}
use Rattle.resuming.proofs.sounds.good_event.Goals as goal

-- src/sounds.rt:9:1
pub returns : goal.returns
unfolding good_event
returns c = rw (c.good_time.ensures, c.finite.ensures, c.finite-2.ensures)
