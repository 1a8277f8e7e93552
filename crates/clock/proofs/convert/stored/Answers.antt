use Rattle.clock.specs.Adc.{stored_of}
use Rattle.clock.proofs.convert.stored.Goals as goal

pub returns-then-old-new : goal.returns-then-old-new
unfolding stored_of
returns-then-old-new c = rw c.if-old-new.true

pub returns : goal.returns
unfolding stored_of
returns c = rw c.if-old-new.false
