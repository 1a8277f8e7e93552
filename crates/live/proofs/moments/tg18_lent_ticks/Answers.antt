use Rattle.live.proofs.moments.tg18_lent_ticks.Goals as goal

pub returns : goal.returns
returns c slots addresses values rtc page onsets frequencies duties starts codes ram sram gpio fb =
    rw (c.times_of-times.ensures, c.latch_of-latch.ensures) at c.ticks.ensures
