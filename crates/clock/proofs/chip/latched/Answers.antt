use Rattle.clock.proofs.chip.latched.Goals as goal

pub returns : goal.returns
returns c = cc
