use Rattle.clock.specs.Rtc.{ticks_of}
use Rattle.clock.proofs.chip.ticks.Goals as goal

pub returns : goal.returns
unfolding ticks_of
returns c = cc
