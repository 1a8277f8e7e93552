use Rattle.session.specs.Good.{good_flash}
use Rattle.resuming.proofs.judge.good_flash.Goals as goal

-- src/judge.rt:97:42
-- src/judge.rt:97:42
-- src/judge.rt:97:42
-- src/judge.rt:97:5
-- src/judge.rt:92:1
pub returns : goal.returns
unfolding good_flash
returns c =
    rw (c.reachable.ensures, c.chip_of-chip.ensures, c.copy_in.ensures, c.flags_at.ensures)
