use Rattle.std.proofs.Common.{ap}
use Rattle.state.proofs.Puts.{timer_got}
use Rattle.state.specs.Bank.{timer_in}
use Rattle.timer.specs.declared.Timer.{Timer}
use Rattle.state.proofs.moments.pending_of.Goals as goal

pub returns-then-n-lt-TIMER_COUNT : goal.returns-then-n-lt-TIMER_COUNT
unfolding timer_in
returns-then-n-lt-TIMER_COUNT c =
    λ f. ap (λ (t : Timer). t.pending) (timer_got c.args.cells.now f
    c.args.n c.if-n-lt-TIMER_COUNT.true)
