use Rattle.std.proofs.Common.{◌≡◌, ◌-◌, ◌||◌, List, Float}
use Rattle.map.specs.Numbers.{TIMER_COUNT}
use Rattle.state.specs.Bank.{timers_in}
use Rattle.state.specs.Each.{any_of}
use Rattle.time.specs.Irq.{pending_at, timer_line}
use Rattle.time.proofs.irq.timer_irq_line.Given as goal

abbrev pub invariant-loop-n : goal.invariant-loop-n
invariant-loop-n l =
    (f : List Float)
    → (l.pending || any_of (λ n. pending_at (timers_in l.cells f) n) l.n (TIMER_COUNT - l.n))
    ≡ timer_line (timers_in l.cells f)
