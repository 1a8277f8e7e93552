use Rattle.state.proofs.Puts.{vsync_put_lem}
use Rattle.state.proofs.moments.put_vsync.Goals as goal

pub returns : goal.returns
returns c =
    λ f. vsync_put_lem c.args.cells.now c.told-cells f
    c.args.n
