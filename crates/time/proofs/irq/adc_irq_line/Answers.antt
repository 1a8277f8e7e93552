use Rattle.time.specs.Irq.{adc_line}
use Rattle.time.proofs.irq.adc_irq_line.Goals as goal

pub returns : goal.returns
unfolding adc_line
returns c = rw (c.adc_irq_line.ensures, c.own_reg.ensures)
