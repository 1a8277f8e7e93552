use Rattle.std.proofs.Common.{◌≡◌, ◌++◌, take, drop}
use Rattle.memory.proofs.copy.Given as goal

abbrev pub invariant-loop-i : goal.invariant-loop-i
invariant-loop-i l = l.b-items ≡ take l.i l.from ++ drop l.i l.initial.b-items
