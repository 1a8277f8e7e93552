use Rattle.whole.proofs.Cuts.{signed_least, signed_negative, signed_greatest, signed_within}
use Rattle.whole.proofs.whole_signed.Goals as goal

pub returns-then-below-ge9223372036854775808 : goal.returns-then-below-ge9223372036854775808
returns-then-below-ge9223372036854775808 c = signed_least _ _ c.if-x.true c.whole-below.ensures.cast
    c.if-below-ge9223372036854775808.true

pub returns-then-x : goal.returns-then-x
returns-then-x c =
    signed_negative _ _ c.if-x.true
    c.whole-below.ensures.cast
    c.if-below-ge9223372036854775808.false

pub returns-then-n-ge9223372036854775808 : goal.returns-then-n-ge9223372036854775808
returns-then-n-ge9223372036854775808 c = signed_greatest _ _ c.if-x.false c.whole-n.ensures.cast
    c.if-n-ge9223372036854775808.true

pub returns : goal.returns
returns c = signed_within _ _ c.if-x.false c.whole-n.ensures.cast c.if-n-ge9223372036854775808.false
