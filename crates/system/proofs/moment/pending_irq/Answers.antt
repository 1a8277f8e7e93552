use Rattle.system.proofs.Banks.{pending_done}
use Rattle.system.proofs.moment.pending_irq.Goals as goal

pub returns : goal.returns
returns c =
    pending_done c.args.s c.of-bank.ensures (c.pending_irq.ensures _)
