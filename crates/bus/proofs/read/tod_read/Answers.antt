use Rattle.bus.specs.Read.{day_read}
use Rattle.bus.proofs.read.tod_read.Goals as goal

pub returns : goal.returns
unfolding day_read
returns c = rw (c.tod_read.ensures, c.times_of-times.ensures, c.irq_of-irq.ensures)
