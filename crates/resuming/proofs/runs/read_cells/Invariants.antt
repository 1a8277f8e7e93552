use Rattle.std.proofs.Common.{◌-◌}
use Rattle.resuming.proofs.Cells.{CellsSoFar}
use Rattle.resuming.proofs.runs.read_cells.Given as goal

abbrev pub invariant-loop-i : goal.invariant-loop-i
invariant-loop-i l = CellsSoFar l.s l.at l.initial.cells l.from (l.i - l.from) l.cells l.next
