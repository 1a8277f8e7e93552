use Rattle.std.proofs.Common.{◌≡◌, ◌&&◌, ◌+◌, ◌-◌, ◌*◌}
use Rattle.runner.specs.Format.{step_bytes, kinds_from}
use Rattle.runner.specs.Inner.{Kinds}
use Rattle.runner.proofs.format.few_kinds.Given as goal

abbrev pub invariant-loop-i : goal.invariant-loop-i
invariant-loop-i l =
    Kinds l.table → (l.good && kinds_from l.script (l.from + step_bytes * l.i) (l.n - l.i))
    ≡ kinds_from l.script l.from l.n
