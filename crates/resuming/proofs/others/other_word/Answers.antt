use Rattle.session.specs.Good.{other_word}
use Rattle.resuming.proofs.others.other_word.Goals as goal

-- src/others.rt:29:1
pub returns : goal.returns
unfolding other_word
returns c = rw (c.slot.ensures, c.day_word.ensures, c.is_register.ensures)
