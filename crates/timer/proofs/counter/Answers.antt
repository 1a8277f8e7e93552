use Rattle.timer.proofs.Cases.{counter_stands, counter_runs}
use Rattle.timer.proofs.counter.Goals as goal

pub returns-then-control-eq0 : goal.returns-then-control-eq0
returns-then-control-eq0 c = counter_stands _ _ _ _ _ _ c.if-control-eq0.true

pub returns : goal.returns
returns c =
    let a = c.args in
    counter_runs a.t a.now a.clock a.control a.reload a.stored _ _ _ c.if-control-eq0.false
    c.rate.ensures
    c.elapsed-e.ensures c.period-p.ensures
