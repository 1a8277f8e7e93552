use Rattle.time.specs.Next.{game_next}
use Rattle.time.proofs.next.game_next.Goals as goal

pub returns : goal.returns
unfolding game_next
returns c = rw c.one_more.ensures
