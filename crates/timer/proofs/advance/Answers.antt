use Rattle.timer.proofs.Cases.{advance_stands, advance_within, advance_counts}
use Rattle.timer.proofs.advance.Goals as goal

pub returns-then-control-eq0 : goal.returns-then-control-eq0
returns-then-control-eq0 c = advance_stands _ _ _ _ _ c.if-control-eq0.true

pub returns-then-periods-t : goal.returns-then-periods-t
returns-then-periods-t c =
    let a = c.args in
    advance_within a.t a.now a.clock a.control a.reload _ _ _ c.if-control-eq0.false
    c.rate.ensures
    c.elapsed.ensures c.period.ensures c.if-periods-t.true

pub returns : goal.returns
returns c =
    let a = c.args in
    advance_counts a.t a.now a.clock a.control a.reload _ _ _ c.if-control-eq0.false
    c.rate.ensures
    c.elapsed.ensures c.period.ensures c.if-periods-t.false
