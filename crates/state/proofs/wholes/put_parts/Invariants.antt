use Rattle.std.proofs.Common.{◌≡◌, ◌-◌, get_or}
use Rattle.map.specs.Numbers.{TIMER_COUNT}
use Rattle.state.specs.Parts.{none, timer_put}
use Rattle.state.specs.Bank.{parts_in}
use Rattle.state.specs.Each.{through}
use Rattle.state.specs.Packed.{Packed}
use Rattle.state.proofs.wholes.put_parts.Given as goal

abbrev pub invariant-loop-n : goal.invariant-loop-n
invariant-loop-n l = record {
  packed : Packed l.cells l.floats;
  left :
      through (λ n y. timer_put y n (get_or l.timers n none)) l.n (TIMER_COUNT - l.n) (parts_in l.cells l.floats)
      ≡ through (λ n y. timer_put y n (get_or l.timers n none)) 0 TIMER_COUNT
      (parts_in l.initial.cells l.initial.floats);
}
