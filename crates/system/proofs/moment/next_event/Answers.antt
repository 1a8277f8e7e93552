use Rattle.system.proofs.Banks.{next_done}
use Rattle.system.proofs.moment.next_event.Goals as goal

pub returns : goal.returns
returns c =
    next_done c.args.s c.of-bank.ensures c.args.sram.now
    c.next_event.ensures
