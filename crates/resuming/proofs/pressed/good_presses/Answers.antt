use Rattle.std.proofs.Common.{◌∙◌, arith}
use Rattle.resuming.proofs.Tables.{all_none, all_more, all_all, all_not}
use Rattle.session.specs.Good.{good_presses}
use Rattle.resuming.proofs.pressed.good_presses.Goals as goal

pub loop-i-init : goal.loop-i-init
loop-i-init c = all_none _

pub returns-then-not-good_press : goal.returns-then-not-good_press
unfolding good_presses
returns-then-not-good_press c =
    all_not _ c.loop-i.i c.args.k
    (c.good_press.ensures ∙ rw (c.float_of-start.ensures, c.number.ensures.0, c.number-in-loop-i.ensures.0))
    c.if-not-good_press.true (omega arith)

pub loop-i-preserved : goal.loop-i-preserved
loop-i-preserved c =
    all_more _ (c.good_press.ensures ∙ rw (c.float_of-start.ensures, c.number.ensures.0, c.number-in-loop-i.ensures.0))
    c.if-not-good_press.false c.loop-i.invariant

pub returns : goal.returns
unfolding good_presses
returns c = all_all _ c.args.k c.loop-i.invariant (omega arith) (omega arith)
