use Rattle.std.proofs.Common.{refl}
use Rattle.clock.specs.Rtc.{fresh_rtc}
use Rattle.clock.proofs.chip.fresh.Goals as goal

pub returns : goal.returns
unfolding fresh_rtc
returns c = refl
