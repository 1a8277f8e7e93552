use Rattle.timer.proofs.Cases.{resync_stands, resync_counts}
use Rattle.timer.proofs.resync.Goals as goal

pub returns-then-control-eq0 : goal.returns-then-control-eq0
returns-then-control-eq0 c = resync_stands _ _ _ _ _ c.if-control-eq0.true

pub returns : goal.returns
returns c =
    let a = c.args in
    resync_counts a.t a.now a.clock a.control a.reload _ _ _ c.if-control-eq0.false c.rate.ensures
    c.elapsed.ensures c.period.ensures
