use Rattle.std.proofs.Common.{rules}
use Rattle.state.proofs.Puts.{irq_put_lem}
use Rattle.state.proofs.moments.put_irq.Goals as goal

pub returns : goal.returns
returns c =
    irq_put_lem c.args.cells.now
    c.args.floats.now c.told-cells
    c.told-floats c.args.irq (search rules)
