use Rattle.std.proofs.Common.{◌≡◌, length}
use Rattle.runner.proofs.Runs.{Below}
use Rattle.runner.proofs.format.known_kinds.Given as goal

abbrev pub invariant-loop-k : goal.invariant-loop-k
invariant-loop-k l = (length l.table ≡ 256) × Below l.table l.k
