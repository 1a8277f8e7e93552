use Rattle.time.proofs.Cases.{event_wanted, event_pends, event_ahead}
use Rattle.time.proofs.next.event_time.Goals as goal

pub returns-then-converting_of-irq_wanted : goal.returns-then-converting_of-irq_wanted
returns-then-converting_of-irq_wanted c =
    event_wanted _ _ _ _ _ c.converting_of.ensures (c.irq_wanted.ensures _) c.times_of-t.ensures
    c.if-converting_of-irq_wanted.true

pub returns-then-any_pends : goal.returns-then-any_pends
returns-then-any_pends c =
    event_pends _ _ _ _ _ c.converting_of.ensures (c.irq_wanted.ensures _) c.if-converting_of-irq_wanted.false
    (c.any_pends.ensures _) c.times_of-t.ensures c.if-any_pends.true

pub returns : goal.returns
returns c =
    event_ahead _ _ _ _ _ c.converting_of.ensures (c.irq_wanted.ensures _) c.if-converting_of-irq_wanted.false
    (c.any_pends.ensures _) c.if-any_pends.false (rw c.sysclk_var-clock.ensures at c.earliest.ensures)
