use Rattle.std.proofs.Common.{◌∙◌}
use Rattle.whole.proofs.Flags.{from_bool-bit}
use Rattle.state.proofs.Words.{mode_tag}
use Rattle.state.proofs.Puts.{chip_put}
use Rattle.state.proofs.chips.put_chip.Goals as goal

pub returns : goal.returns
returns c =
    λ f. chip_put c.args.cells.now c.told-cells f c.args.chip _ _ _ (mode_tag _) (c.from.ensures ∙ from_bool-bit _)
    (c.from-2.ensures ∙ from_bool-bit _) (c.put_sent.ensures f)
