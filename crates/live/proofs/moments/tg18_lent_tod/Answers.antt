use Rattle.live.proofs.moments.tg18_lent_tod.Goals as goal

pub returns : goal.returns
returns c slots addresses values rtc page onsets frequencies duties starts codes ram sram gpio fb =
    rw (c.times_of-times.ensures, c.irq_of-irq.ensures) at c.tod.ensures
