use Rattle.std.proofs.Common.{◌∙◌}
use Rattle.whole.proofs.Flags.{from_bool-bit}
use Rattle.state.proofs.Puts.{timer_put_lem, no_timer}
use Rattle.state.proofs.moments.put_timer.Goals as goal

pub returns-then-n-lt-TIMER_COUNT : goal.returns-then-n-lt-TIMER_COUNT
returns-then-n-lt-TIMER_COUNT c =
    timer_put_lem c.args.cells.now c.args.floats.now c.told-cells c.told-floats
    c.args.timer _ (c.from-on.ensures ∙ from_bool-bit _) c.args.n c.if-n-lt-TIMER_COUNT.true

pub returns-else-n-lt-TIMER_COUNT : goal.returns-else-n-lt-TIMER_COUNT
returns-else-n-lt-TIMER_COUNT c =
    no_timer c.args.cells.now c.args.floats.now c.args.timer c.args.n c.if-n-lt-TIMER_COUNT.false
