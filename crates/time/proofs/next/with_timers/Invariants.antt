use Rattle.std.proofs.Common.{◌≡◌, ◌-◌, slice_index_or}
use Rattle.map.specs.Numbers.{TIMER_COUNT}
use Rattle.state.specs.Parts.{none}
use Rattle.state.specs.Bank.{timers_in}
use Rattle.state.specs.Each.{through}
use Rattle.time.specs.Next.{with_timer, with_timers}
use Rattle.time.proofs.next.with_timers.Given as goal

abbrev pub invariant-loop-n : goal.invariant-loop-n
invariant-loop-n l =
    through (λ n x. with_timer l.slots n (slice_index_or (timers_in l.cells l.floats) n none) l.clock x) l.n
    (TIMER_COUNT - l.n) l.t
    ≡ with_timers l.slots (timers_in l.cells l.floats) l.clock l.so
