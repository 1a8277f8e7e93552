use Rattle.time.specs.Irq.{lcd_line}
use Rattle.time.proofs.irq.lcd_irq_line.Goals as goal

pub returns : goal.returns
unfolding lcd_line
returns c = rw (c.own_reg-status.ensures, c.own_reg.ensures)
