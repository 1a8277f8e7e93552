use Rattle.std.proofs.Common.{rules}
use Rattle.state.proofs.Puts.{latch_put_lem}
use Rattle.state.proofs.rests.put_latch.Goals as goal

pub returns : goal.returns
returns c =
    latch_put_lem c.args.cells.now
    c.args.floats.now c.told-cells
    c.told-floats c.args.latch (search rules)
