use Rattle.std.proofs.Common.{◌≡◌}
use Rattle.keys.specs.Edges.{edges_from}
use Rattle.keys.proofs.edges.press_edges.Given as goal

abbrev pub invariant-loop-k : goal.invariant-loop-k
invariant-loop-k l = l.r ≡ edges_from l.starts l.time l.t l.k-index
