use Rattle.time.specs.Next.{next_of}
use Rattle.time.proofs.next.next_event.Goals as goal

pub returns : goal.returns
unfolding next_of
returns c = rw (c.answered.ensures, c.event_time.ensures)
