use Rattle.std.proofs.Common.{◌∙◌, rules}
use Rattle.whole.proofs.Flags.{from_bool-bit}
use Rattle.state.proofs.Puts.{sent_put_lem}
use Rattle.state.proofs.chips.put_sent.Goals as goal

pub returns : goal.returns
returns c =
    λ f. sent_put_lem c.args.cells.now c.told-cells f c.args.rx c.args.tx _ (c.from.ensures
    ∙ from_bool-bit _) (search rules)
    (search rules) (search rules) (search rules) (search rules)
