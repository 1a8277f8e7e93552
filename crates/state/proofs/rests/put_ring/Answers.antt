use Rattle.std.proofs.Common.{rules}
use Rattle.state.proofs.Puts.{ring_put_lem}
use Rattle.state.proofs.rests.put_ring.Goals as goal

pub returns : goal.returns
returns c =
    λ f. ring_put_lem c.args.cells.now c.told-cells f
    c.args.ring (search rules)
