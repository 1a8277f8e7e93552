use Rattle.std.proofs.Common.{sym, ◌∙◌}
use Rattle.whole.proofs.Good.{time_no_nan}
use Rattle.whole.proofs.limits.BitsGiven.time.Goals as goal

pub float_from_bits-result : goal.float_from_bits-result
float_from_bits-result c = time_no_nan _ (sym c.time_bits.ensures ∙ c.if-time_bits.true)

pub returns-then-time_bits : goal.returns-then-time_bits
returns-then-time_bits c = rw (sym c.time_bits.ensures ∙ c.if-time_bits.true)

pub returns : goal.returns
returns c = rw (sym c.time_bits.ensures ∙ c.if-time_bits.false)
