use Rattle.bus.specs.Read.{counter_read}
use Rattle.bus.proofs.read.counter_read.Goals as goal

pub returns : goal.returns
unfolding counter_read
returns c =
    rw (
      c.counter.ensures,
      c.timer_of-t.ensures,
      c.times_of-times.ensures,
      c.own_reg-control.ensures,
      c.own_reg-reload.ensures,
      c.base_of-base.ensures,
    )
