use Rattle.timer.specs.Timers.{written_of}
use Rattle.timer.proofs.write_ctrl.Goals as goal

pub returns-then-val-old : goal.returns-then-val-old
unfolding written_of
returns-then-val-old c = rw (c.if-val-old.true, ← c.cleared-pending.ensures)

pub returns : goal.returns
unfolding written_of
returns c = rw (c.if-val-old.false, ← c.cleared-pending.ensures)
