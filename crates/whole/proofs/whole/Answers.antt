-- `whole::whole` meets its contract: each return is what the pattern's range is cut to.
use Rattle.std.proofs.Common.{not, T, sym, subst, arith, Float, to_bits, is_nan}
use lib.Ieee.{binary64}
use Rattle.whole.proofs.Cuts.{cut_by_bits, cut_nan, sign_set, fraction, dropped, scaled_up, saturated}
use Rattle.whole.proofs.Bits.{bits_back, no_nan}
use Rattle.whole.proofs.whole.Goals as goal

pub returns-then-x : goal.returns-then-x
returns-then-x c = cut_nan c.args.x c.if-x.true

pub float_to_bits-bits : goal.float_to_bits-bits
float_to_bits-bits c = no_nan c.args.x c.if-x.false

pub returns-then-bits-ge9223372036854775808 : goal.returns-then-bits-ge9223372036854775808
returns-then-bits-ge9223372036854775808 c = cut_by_bits _ _ c.well_formed.0.1
    (sign_set _ c.if-bits-ge9223372036854775808.true)

pub returns-then-exponent-lt1023 : goal.returns-then-exponent-lt1023
returns-then-exponent-lt1023 c = cut_by_bits _ _ c.well_formed.0.1 (fraction _ (omega arith))

pub returns-then-exponent-le1075 : goal.returns-then-exponent-le1075
returns-then-exponent-le1075 c =
    cut_by_bits _ _ c.well_formed.0.1 (dropped _ c.if-exponent-lt1023.false
    c.if-exponent-le1075.true)

pub returns-then-exponent-lt1087 : goal.returns-then-exponent-lt1087
returns-then-exponent-lt1087 c =
    cut_by_bits _ _ c.well_formed.0.1 (scaled_up _
    c.if-exponent-le1075.false c.if-exponent-lt1087.true)

pub returns : goal.returns
returns c =
    let x = c.args.x in
    cut_by_bits x _ c.well_formed.0.1
    (saturated (to_bits binary64 x) (omega arith) c.if-bits-ge9223372036854775808.false
    (subst (λ (y : Float). T (not (is_nan y))) (sym (bits_back x c.well_formed.0.1)) (no_nan x
    c.if-x.false)))
