use Rattle.registers.proofs.Loops.{Come}
use Rattle.registers.proofs.end_from.Given as goal

abbrev pub invariant-loop-end : goal.invariant-loop-end
invariant-loop-end l = Come l.addresses l.at l.end
