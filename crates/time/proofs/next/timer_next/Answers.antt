use Rattle.time.specs.Next.{timer_next}
use Rattle.time.proofs.next.timer_next.Goals as goal

pub returns : goal.returns
unfolding timer_next
returns c =
    rw (
      c.one_more-n.ensures,
      c.period-p.ensures,
      c.rate.ensures,
    )
