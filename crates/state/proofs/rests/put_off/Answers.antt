use Rattle.std.proofs.Common.{◌∙◌}
use Rattle.whole.proofs.Flags.{from_bool-bit}
use Rattle.state.proofs.Puts.{off_put_lem}
use Rattle.state.proofs.rests.put_off.Goals as goal

pub returns : goal.returns
returns c =
    λ f. off_put_lem c.args.cells.now c.told-cells f
    c.args.off _ (c.from.ensures ∙ from_bool-bit _)
