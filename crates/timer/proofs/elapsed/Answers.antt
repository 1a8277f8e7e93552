use Rattle.timer.proofs.Cases.{elapsed_some, elapsed_none}
use Rattle.timer.proofs.elapsed.Goals as goal

pub returns-then-t : goal.returns-then-t
returns-then-t c =
    let a = c.args in
    elapsed_some a.start a.now a.rate _ c.if-t.true c.whole.ensures.cast

pub returns-else-t : goal.returns-else-t
returns-else-t c = elapsed_none c.args.start c.args.now c.args.rate c.if-t.false
