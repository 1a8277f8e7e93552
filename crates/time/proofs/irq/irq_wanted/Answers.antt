use Rattle.time.specs.Irq.{wanted_of}
use Rattle.time.proofs.irq.irq_wanted.Goals as goal

pub returns : goal.returns
unfolding wanted_of
returns c = λ f. rw (c.own_reg-off.ensures, c.pending_irq.ensures f)
