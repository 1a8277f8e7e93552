use Rattle.timer.proofs.events.drop_batch.Goals as goal

pub returns : goal.returns
returns c = cc
