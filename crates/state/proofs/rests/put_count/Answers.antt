use Rattle.state.proofs.Puts.{count_put_lem}
use Rattle.state.proofs.rests.put_count.Goals as goal

pub returns : goal.returns
returns c =
    λ f. count_put_lem c.args.cells.now c.told-cells f
    c.args.n
