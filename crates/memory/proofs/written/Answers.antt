use Rattle.memory.specs.Access.{written_of}
use Rattle.memory.proofs.written.Goals as goal

pub returns : goal.returns
unfolding written_of
returns c = cc
