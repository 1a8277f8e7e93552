use Rattle.timer.proofs.events.drop_oldest.Goals as goal

pub returns : goal.returns
returns c = cc
