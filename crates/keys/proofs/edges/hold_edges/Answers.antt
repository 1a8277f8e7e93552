use Rattle.keys.specs.Edges.{hold_edges}
use Rattle.keys.proofs.edges.hold_edges.Goals as goal

pub returns : goal.returns
unfolding hold_edges
returns c = cc
