use Rattle.state.proofs.Puts.{times_put_lem}
use Rattle.state.proofs.moments.put_times.Goals as goal

pub returns : goal.returns
returns c =
    λ l. times_put_lem c.args.floats.now c.told-floats l
    c.args.times
