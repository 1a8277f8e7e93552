use Rattle.system.proofs.wipe.fresh.Goals as goal

pub returns : goal.returns
returns c = rw c.parts_of-parts.ensures c.reset.ensures.0
