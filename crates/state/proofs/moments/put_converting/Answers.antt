use Rattle.std.proofs.Common.{◌∙◌}
use Rattle.whole.proofs.Flags.{from_bool-bit}
use Rattle.state.proofs.Puts.{converting_put_lem}
use Rattle.state.proofs.moments.put_converting.Goals as goal

pub returns : goal.returns
returns c =
    λ f. converting_put_lem c.args.cells.now c.told-cells f
    c.args.on _ (c.from.ensures ∙ from_bool-bit _)
