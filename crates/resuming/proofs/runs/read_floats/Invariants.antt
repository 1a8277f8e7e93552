use Rattle.std.proofs.Common.{◌-◌}
use Rattle.resuming.proofs.Cells.{FloatsSoFar}
use Rattle.resuming.proofs.runs.read_floats.Given as goal

abbrev pub invariant-loop-i : goal.invariant-loop-i
invariant-loop-i l = FloatsSoFar l.s l.at l.initial.floats l.from (l.i - l.from) l.floats l.next
