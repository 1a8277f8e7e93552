use Rattle.std.proofs.Common.{◌∙◌, arith}
use Rattle.session.specs.Fields.{span}
use Rattle.resuming.proofs.Tables.{all_none, all_more, all_all, all_not}
use Rattle.session.specs.Good.{good_others}
use Rattle.resuming.proofs.others.good_others.Goals as goal

pub loop-i-init : goal.loop-i-init
loop-i-init c = all_none _

pub returns-then-not-good_other : goal.returns-then-not-good_other
unfolding good_others
returns-then-not-good_other c =
    all_not _ c.loop-i.i c.args.n
    (c.good_other.ensures ∙ rw (c.last_at.ensures, c.number.ensures.0, c.number-in-loop-i.ensures.0))
    c.if-not-good_other.true (omega arith)

pub loop-i-preserved : goal.loop-i-preserved
loop-i-preserved c =
    all_more _ (c.good_other.ensures ∙ rw (c.last_at.ensures, c.number.ensures.0, c.number-in-loop-i.ensures.0))
    c.if-not-good_other.false c.loop-i.invariant

pub returns : goal.returns
unfolding good_others
returns c = all_all _ c.args.n c.loop-i.invariant (omega arith) (omega arith)

pub good_other-requires : goal.good_other-requires
unfolding span
good_other-requires c = c.number.ensures.1
