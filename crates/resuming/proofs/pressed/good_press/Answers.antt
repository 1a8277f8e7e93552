use Rattle.session.specs.Good.{good_press}
use Rattle.resuming.proofs.pressed.good_press.Goals as goal

-- src/pressed.rt:11:1
pub returns : goal.returns
unfolding good_press
returns c = rw (c.good_time.ensures, c.waits.ensures)
