use Rattle.time.specs.Next.{vsync_next}
use Rattle.time.proofs.next.vsync_next.Goals as goal

pub returns : goal.returns
unfolding vsync_next
returns c = rw c.one_more.ensures
