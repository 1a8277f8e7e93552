use Rattle.live.proofs.Took.{took_many_lem}
use Rattle.live.proofs.taker.tg18_lent_take_events.Goals as goal

pub returns : goal.returns
returns c = took_many_lem _ _ _ _ _ _ _ _ _ _ _ _ _ c.ring_of-ring.ensures c.take_into-batch.ensures c.keep.ensures
