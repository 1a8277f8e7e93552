use Rattle.clock.specs.Adc.{converted_of}
use Rattle.clock.proofs.convert.adc_advance.Goals as goal

pub returns-then-adc : goal.returns-then-adc
unfolding converted_of
returns-then-adc c = rw c.if-adc.true

pub returns : goal.returns
unfolding converted_of
returns c = rw c.if-adc.false
