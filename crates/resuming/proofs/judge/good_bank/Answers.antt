use Rattle.session.specs.Good.{good_bank}
use Rattle.resuming.proofs.judge.good_bank.Goals as goal

-- src/judge.rt:64:1
pub returns : goal.returns
unfolding good_bank
returns c =
    rw (c.good_cells.ensures, c.good_floats.ensures, c.in_order.ensures, c.in_step.ensures)
