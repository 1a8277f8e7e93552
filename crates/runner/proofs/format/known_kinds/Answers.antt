use Rattle.std.proofs.Common.{arith, ◌∙◌, Bool, true, false, length-set}
use Rattle.std.proofs.lemmas.List.{length-replicate}
use Rattle.runner.proofs.Runs.{below_first, below_more, below_known}
use Rattle.runner.proofs.format.known_kinds.Goals as goal

pub loop-k-init : goal.loop-k-init
loop-k-init c = (length-replicate {A = Bool} 256 false, below_first)

pub loop-k-preserved : goal.loop-k-preserved
loop-k-preserved c = (
  length-set {A = Bool} c.loop-k.table c.loop-k.k true ∙ c.loop-k.invariant.0,
  below_more c.loop-k.table c.loop-k.k (omega arith) (omega (arith, c.loop-k.invariant.0)) c.loop-k.invariant.1,
)

pub returns : goal.returns
returns c = below_known c.loop-k.table c.loop-k.k (omega arith) c.loop-k.invariant.1
