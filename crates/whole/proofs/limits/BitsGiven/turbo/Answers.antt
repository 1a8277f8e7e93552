use Rattle.std.proofs.Common.{sym, ◌∙◌}
use Rattle.whole.proofs.Good.{turbo_no_nan}
use Rattle.whole.proofs.limits.BitsGiven.turbo.Goals as goal

pub float_from_bits-result : goal.float_from_bits-result
float_from_bits-result c = turbo_no_nan _ (sym c.turbo_bits.ensures ∙ c.if-turbo_bits.true)

pub returns-then-turbo_bits : goal.returns-then-turbo_bits
returns-then-turbo_bits c = rw (sym c.turbo_bits.ensures ∙ c.if-turbo_bits.true)

pub returns : goal.returns
returns c = rw (sym c.turbo_bits.ensures ∙ c.if-turbo_bits.false)
