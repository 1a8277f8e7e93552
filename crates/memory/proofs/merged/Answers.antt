use Rattle.memory.specs.Access.{merged_of}
use Rattle.memory.proofs.merged.Goals as goal

pub returns : goal.returns
unfolding merged_of
returns c = cc
