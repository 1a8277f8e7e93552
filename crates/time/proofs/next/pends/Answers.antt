use Rattle.time.specs.Next.{pends}
use Rattle.time.proofs.next.pends.Goals as goal

pub returns : goal.returns
unfolding pends
returns c f = rw (c.runs.ensures, c.own_reg.ensures, c.pending_of.ensures f)
