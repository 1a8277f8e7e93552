use Rattle.session.specs.Good.{good_other}
use Rattle.resuming.proofs.others.good_other.Goals as goal

-- src/others.rt:40:49
pub overflow_cast-addr : goal.overflow_cast-addr
overflow_cast-addr c = record { fits = c.requires }

-- src/others.rt:36:1
pub returns : goal.returns
unfolding good_other
returns c = rw c.other_word.ensures
