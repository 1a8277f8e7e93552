use Rattle.clock.proofs.convert.adc_write_ctrl.Goals as goal

pub returns : goal.returns
returns c = cc
