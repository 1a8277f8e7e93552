use Rattle.std.proofs.Common.{◌∙◌, rules}
use Rattle.whole.proofs.Flags.{from_bool-bit}
use Rattle.state.proofs.Puts.{keys_put_lem}
use Rattle.state.proofs.rests.put_keys.Goals as goal

pub returns : goal.returns
returns c =
    keys_put_lem c.args.cells.now c.args.floats.now c.told-cells c.told-floats c.args.keys _ _ _
    (c.from.ensures ∙ from_bool-bit _)
    (c.from-2.ensures ∙ from_bool-bit _) (c.from-3.ensures ∙ from_bool-bit _) (search rules)
