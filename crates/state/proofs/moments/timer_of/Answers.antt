use lib.Ieee.{of_bits, div}
use Rattle.state.proofs.Puts.{timer_got, timer_none}
use Rattle.state.specs.Bank.{timer_in}
use Rattle.state.proofs.moments.timer_of.Goals as goal

pub returns-then-n-lt-TIMER_COUNT : goal.returns-then-n-lt-TIMER_COUNT
unfolding timer_in
returns-then-n-lt-TIMER_COUNT c =
    timer_got c.args.cells.now c.args.floats.now c.args.n c.if-n-lt-TIMER_COUNT.true

pub returns : goal.returns
unfolding of_bits div
returns c =
    timer_none c.args.cells.now c.args.floats.now c.args.n
    c.if-n-lt-TIMER_COUNT.false
