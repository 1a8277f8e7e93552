use Rattle.std.proofs.Common.{◌∙◌}
use Rattle.saving.proofs.Laid.{laid_as}
use Rattle.saving.proofs.Digits.{four_bytes}
use Rattle.saving.proofs.numbers.put_four.Goals as goal

pub returns : goal.returns
returns c = laid_as c.copy_out.ensures (c.to_le_bytes.ensures ∙ four_bytes c.args.value)
