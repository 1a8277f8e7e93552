use Rattle.time.specs.Irq.{pending_of}
use Rattle.time.proofs.irq.pending_irq.Goals as goal

pub returns : goal.returns
unfolding pending_of
returns c =
    λ f.
    rw (
      c.first.ensures,
      c.own_reg-mask.ensures,
      c.rtc_irq_line-rtc.ensures,
      c.timer_irq_line-timer.ensures f,
      c.lcd_irq_line-lcd.ensures,
      c.adc_irq_line-adc.ensures,
    )
