use Rattle.keys.proofs.edges.edges.Goals as goal

pub returns : goal.returns
returns c = cc
