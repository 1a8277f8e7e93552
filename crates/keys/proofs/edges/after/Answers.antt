use Rattle.keys.specs.Edges.{after_of}
use Rattle.keys.proofs.edges.after.Goals as goal

pub returns-then-edge-time : goal.returns-then-edge-time
unfolding after_of
returns-then-edge-time c = rw (c.if-edge-time.true, c.min.ensures)

pub returns-else-edge-time : goal.returns-else-edge-time
unfolding after_of
returns-else-edge-time c = rw c.if-edge-time.false
