use Rattle.std.proofs.Common.{eq-eqb, ne_eqb}
use Rattle.flash.specs.Xfer.{answer_of}
use Rattle.flash.proofs.xfer.answer.Goals as goal

pub returns-then-t-eq0 : goal.returns-then-t-eq0
unfolding answer_of
returns-then-t-eq0 c = simp (eq-eqb _ _ c.if-t-eq0.true)

pub returns : goal.returns
unfolding answer_of
returns c = simp (c.respond.ensures, c.decode-kind.ensures, ne_eqb _ _ c.if-t-eq0.false)
