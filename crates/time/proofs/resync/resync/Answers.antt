use Rattle.time.proofs.Clockwork.{clocks_resynced_lem}
use Rattle.time.proofs.resync.resync.Goals as goal

pub returns : goal.returns
returns c =
    let a = c.args in
    let r = c.timers_resync.ensures in (
      clocks_resynced_lem a.slots.now a.cells.now a.floats.now a.sram.now c.times_of-times.ensures
          c.sysclk_var-clock.ensures r.0,
      r.1,
      r.2,
    )
