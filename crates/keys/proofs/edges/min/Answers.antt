use Rattle.keys.specs.Edges.{min_of}
use Rattle.keys.proofs.edges.min.Goals as goal

pub returns-then-b-a : goal.returns-then-b-a
unfolding min_of
returns-then-b-a c = rw c.if-b-a.true

pub returns-else-b-a : goal.returns-else-b-a
unfolding min_of
returns-else-b-a c = rw c.if-b-a.false
