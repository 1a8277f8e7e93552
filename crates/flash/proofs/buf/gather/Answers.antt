use Rattle.std.proofs.Common.{le-ltb, lt-ltb}
use Rattle.flash.specs.Buf.{gathered}
use Rattle.flash.proofs.buf.gather.Goals as goal

pub returns-then-pos-lt4 : goal.returns-then-pos-lt4
unfolding gathered
returns-then-pos-lt4 c = simp (lt-ltb _ _ c.if-pos-lt4.true)

pub returns : goal.returns
unfolding gathered
returns c = simp (c.from.ensures, le-ltb _ _ c.if-pos-lt4.false)
