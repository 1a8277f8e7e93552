use Rattle.state.proofs.Puts.{turbo_put_lem}
use Rattle.state.proofs.moments.put_turbo.Goals as goal

pub returns : goal.returns
returns c = λ l. turbo_put_lem c.args.floats.now c.told-floats l c.args.turbo
