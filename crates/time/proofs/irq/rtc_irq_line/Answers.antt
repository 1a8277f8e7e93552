use Rattle.time.specs.Irq.{rtc_line}
use Rattle.time.proofs.irq.rtc_irq_line.Goals as goal

pub returns : goal.returns
unfolding rtc_line
returns c = rw (c.rtc_irq_line.ensures, c.own_reg-status.ensures, c.own_reg.ensures)
