use Rattle.std.proofs.Common.{◌≡◌, ◌-◌}
use Rattle.map.specs.Numbers.{TIMER_COUNT}
use Rattle.state.specs.Bank.{parts_in}
use Rattle.state.specs.Each.{through}
use Rattle.state.specs.Packed.{StaysPacked}
use Rattle.time.proofs.Clockwork.{stepped, advancing}
use Rattle.time.proofs.advancing.timers_advance.Given as goal

abbrev pub invariant-loop-n : goal.invariant-loop-n
invariant-loop-n l = record {
  left :
      through (λ n x. stepped (advancing l.slots l.time l.clock) x n) l.n (TIMER_COUNT - l.n)
      (parts_in l.cells l.floats)
      ≡ through (λ n x. stepped (advancing l.slots l.time l.clock) x n) 0 TIMER_COUNT
      (parts_in l.initial.cells l.initial.floats);
  packed : StaysPacked l.initial.cells l.initial.floats l.cells l.floats;
}
