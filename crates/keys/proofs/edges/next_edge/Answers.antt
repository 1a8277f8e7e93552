use Rattle.keys.specs.Edges.{next_edge}
use Rattle.keys.proofs.edges.next_edge.Goals as goal

pub returns : goal.returns
unfolding next_edge
returns c = cc
