use Rattle.std.proofs.Common.{◌≡◌, ◌&&◌, ◌+◌, ◌*◌, ◌≤◌}
use Rattle.runner.specs.Format.{step_bytes, kinds_from}
use Rattle.runner.proofs.format.kinds.Given as goal

abbrev pub invariant-loop-left : goal.invariant-loop-left
invariant-loop-left l =
    (l.left ≤ l.n) × (l.at + step_bytes * l.left ≡ l.from +
    step_bytes * l.n) × ((l.good && kinds_from l.script l.at l.left) ≡ kinds_from l.script l.from l.n)

abbrev pub decreases-loop-left : goal.decreases-loop-left
decreases-loop-left l = l.left
