use Rattle.system.proofs.Banks.{wanted_done}
use Rattle.system.proofs.moment.irq_wanted.Goals as goal

pub returns : goal.returns
returns c =
    wanted_done c.args.s c.of-bank.ensures (c.irq_wanted.ensures _)
