use Rattle.runner.specs.Script.{bad_memory}
use Rattle.script.proofs.bad_memory.Goals as goal

pub returns : goal.returns
unfolding bad_memory
returns c = cc
