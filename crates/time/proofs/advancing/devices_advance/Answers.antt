use Rattle.time.proofs.Clockwork.{devices_went}
use Rattle.state.specs.Bank.{parts_in}
use Rattle.time.proofs.advancing.devices_advance.Goals as goal

pub returns : goal.returns
returns c =
    let a = c.args in
    let x = parts_in a.cells.now a.floats.now in (
      devices_went a.slots.now x a.clock a.t
          c.timers_advance.ensures.0 (c.vsync.ensures _).0 (c.adc_advance.ensures _).0
          c.rtc_irq_advance.ensures.0 (c.put_times.ensures _).parts,
      λ k. (c.put_times.ensures _).packed
          (c.rtc_irq_advance.ensures.1 ((c.adc_advance.ensures _).1 ((c.vsync.ensures _).1
          (c.timers_advance.ensures.1 k)))),
    )
