use Rattle.time.specs.Next.{earliest}
use Rattle.time.proofs.next.earliest.Goals as goal

pub returns : goal.returns
unfolding earliest
returns c =
    rw (
      c.next_edge.ensures,
      c.min-tick.ensures,
      c.with_timers-timer.ensures,
      c.vsync_next.ensures,
      c.vsync_of.ensures,
      c.game_next.ensures,
      c.times_of-t.ensures,
      c.irq_of-irq.ensures,
      c.keys_of-k.ensures,
    )
