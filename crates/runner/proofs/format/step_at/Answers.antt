use Rattle.std.proofs.Common.{◌∙◌, arith}
use Rattle.runner.proofs.Inside.{step_part}
use Rattle.runner.proofs.format.step_at.Goals as goal

pub returns : goal.returns
returns c = c.step_in.ensures ∙ step_part _ _ (omega arith)
