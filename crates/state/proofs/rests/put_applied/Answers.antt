use Rattle.std.proofs.Common.{rules}
use Rattle.state.proofs.Puts.{applied_put_lem}
use Rattle.state.proofs.rests.put_applied.Goals as goal

pub returns : goal.returns
returns c =
    λ f. applied_put_lem c.args.cells.now c.told-cells f
    c.args.applied (search rules)
