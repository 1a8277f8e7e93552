use Rattle.std.proofs.Common.{ℕ, ap, ◌∙◌}
use Rattle.memory.specs.Bytes.{bytes_of}
use Rattle.saving.proofs.Laid.{laid_as}
use Rattle.saving.proofs.Digits.{eight_bytes}
use Rattle.saving.proofs.numbers.put_float.Goals as goal

pub returns : goal.returns
returns c =
    laid_as c.copy_out.ensures
    (c.to_le_bytes.ensures ∙ eight_bytes _ ∙ ap (λ (v : ℕ). bytes_of 8 v) c.bits_of.ensures)
