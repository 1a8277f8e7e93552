use Rattle.time.proofs.Cases.{timer_runs, timer_stands}
use Rattle.time.proofs.next.with_timer.Goals as goal

pub returns-then-runs : goal.returns-then-runs
returns-then-runs c =
    timer_runs _ _ _ _ _ _ _ c.own_reg-control.ensures c.runs.ensures c.if-runs.true
    c.own_reg-reload.ensures c.timer_of-t.ensures c.timer_next.ensures c.min.ensures

pub returns : goal.returns
returns c =
    timer_stands _ _ _ _ _ _ _ c.own_reg-control.ensures c.runs.ensures c.if-runs.false
