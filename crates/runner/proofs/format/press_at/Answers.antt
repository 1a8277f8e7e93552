use Rattle.std.proofs.Common.{◌∙◌, arith}
use Rattle.runner.proofs.Inside.{press_part}
use Rattle.runner.proofs.format.press_at.Goals as goal

pub returns : goal.returns
returns c = c.press_in.ensures ∙ press_part _ _ (omega arith)
