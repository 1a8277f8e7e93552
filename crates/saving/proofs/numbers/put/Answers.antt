use Rattle.std.proofs.Common.{ℕ, ap, ◌∙◌, List, take}
use Rattle.saving.proofs.Laid.{laid_as}
use Rattle.saving.proofs.Digits.{few_bytes}
use Rattle.saving.proofs.numbers.put.Goals as goal

pub returns : goal.returns
returns c =
    laid_as c.copy_out.ensures
    (ap (λ (bs : List ℕ). take (c.args.width) bs) c.to_le_bytes.ensures
    ∙ few_bytes c.args.width c.args.value c.requires.1)
