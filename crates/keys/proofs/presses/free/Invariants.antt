use Rattle.std.proofs.Common.{◌≡◌, ◌-◌}
use Rattle.keys.specs.Script.{free_of, free_from}
use Rattle.keys.proofs.presses.free.Given as goal

abbrev pub invariant-loop-i : goal.invariant-loop-i
invariant-loop-i l = free_of l.starts l.count l.time ≡ free_from (l.n - l.i) l.i l.starts l.time
