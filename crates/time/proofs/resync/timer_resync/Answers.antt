use Rattle.time.proofs.Clockwork.{timer_resynced, start_same}
use Rattle.time.proofs.resync.timer_resync.Goals as goal

pub returns : goal.returns
returns c =
    let a = c.args in (
      timer_resynced a.slots.now a.cells.now a.floats.now a.n a.time a.clock
          c.own_reg-control.ensures c.own_reg-reload.ensures c.timer_of-t.ensures c.resync-next.ensures
          c.put_timer.ensures.parts,
      c.put_timer.ensures.packed,
      start_same a.cells.now a.floats.now a.n a.time a.clock _ _ c.requires
          c.timer_of-t.ensures c.resync-next.ensures c.put_timer.ensures.floats,
    )
