use Rattle.std.proofs.Common.{◌∙◌, arith}
use Rattle.clock.specs.Rtc.{six_bytes}
use Rattle.clock.proofs.chip.six_bytes.Goals as goal

pub returns : goal.returns
unfolding six_bytes
returns c = c.from_le_bytes.ensures ∙ omega arith
