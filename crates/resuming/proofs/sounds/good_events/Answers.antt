use Rattle.std.proofs.Common.{◌∙◌, arith}
use Rattle.resuming.proofs.Tables.{all_none, all_more, all_all, all_not}
use Rattle.session.specs.Good.{good_events}
use Rattle.resuming.proofs.sounds.good_events.Goals as goal

pub loop-i-init : goal.loop-i-init
loop-i-init c = all_none _

pub returns-then-not-good_event : goal.returns-then-not-good_event
unfolding good_events
returns-then-not-good_event c =
    all_not _ c.loop-i.i c.args.e
    (c.good_event.ensures ∙ rw (
      c.float_of-time.ensures,
      c.float_of-frequency.ensures,
      c.float_of-duty.ensures,
      c.number.ensures.0,
      c.number-in-loop-i.ensures.0,
      c.number-in-loop-i-2.ensures.0,
    ))
    c.if-not-good_event.true (omega arith)

pub loop-i-preserved : goal.loop-i-preserved
loop-i-preserved c =
    all_more _
    (c.good_event.ensures ∙ rw (
      c.float_of-time.ensures,
      c.float_of-frequency.ensures,
      c.float_of-duty.ensures,
      c.number.ensures.0,
      c.number-in-loop-i.ensures.0,
      c.number-in-loop-i-2.ensures.0,
    ))
    c.if-not-good_event.false c.loop-i.invariant

pub returns : goal.returns
unfolding good_events
returns c = all_all _ c.args.e c.loop-i.invariant (omega arith) (omega arith)
