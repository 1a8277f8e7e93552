-- `put::number` is safe: a pattern is a NaN's where it is above infinity's, but for its sign.
use Rattle.std.proofs.Common.{le-ltb, ◌∙◌, sym, subst, Bool, not, T}
use lib.Ieee.{binary64}
use lib.Ieee.Bits.{nan_bits_above}
use Rattle.replay_time.proofs.put.number.Goals as goal

pub float_from_bits-result : goal.float_from_bits-result
float_from_bits-result c =
    subst (λ (t : Bool). T (not t)) (sym (nan_bits_above binary64 c.args.bits ∙ le-ltb _ _
    c.if-bits-gt9218868437227405312.false)) tt
