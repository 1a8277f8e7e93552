use Rattle.clock.specs.Day.{tod_of}
use Rattle.clock.proofs.Cases.{day_from, day_below}
use Rattle.clock.proofs.day.tod.Goals as goal

pub returns-then-t-lt9223372036854775808 : goal.returns-then-t-lt9223372036854775808
unfolding tod_of
returns-then-t-lt9223372036854775808 c = day_from _ _ c.whole_signed-t.ensures c.if-t-lt9223372036854775808.true

pub returns : goal.returns
unfolding tod_of
returns c = day_below _ _ c.whole_signed-t.ensures c.if-t-lt9223372036854775808.false
