use Rattle.state.proofs.moments.clocks_of.Goals as goal

pub returns : goal.returns
returns c =
    rw (c.times_of-times.ensures, c.timers_of-timers.ensures, c.irq_of-irq.ensures)
