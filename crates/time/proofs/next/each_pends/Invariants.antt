use Rattle.std.proofs.Common.{◌≡◌, ◌-◌, ◌||◌, List, Float, slice_index_or}
use Rattle.map.specs.Numbers.{TIMER_COUNT}
use Rattle.state.specs.Parts.{none}
use Rattle.state.specs.Bank.{timers_in}
use Rattle.state.specs.Each.{any_of}
use Rattle.time.specs.Next.{pends, any_pends}
use Rattle.time.proofs.next.each_pends.Given as goal

abbrev pub invariant-loop-n : goal.invariant-loop-n
invariant-loop-n l =
    (f : List Float)
    → (l.any || any_of (λ n. pends l.slots n (slice_index_or (timers_in l.cells f) n none)) l.n (TIMER_COUNT - l.n))
    ≡ any_pends l.slots (timers_in l.cells f)
