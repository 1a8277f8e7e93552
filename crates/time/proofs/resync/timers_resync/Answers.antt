use Rattle.std.proofs.Common.{refl, ◌∙◌}
use Rattle.state.proofs.Each.{through_all}
use Rattle.time.proofs.Clockwork.{timers_resynced_lem}
use Rattle.time.proofs.resync.timers_resync.Goals as goal

pub returns : goal.returns
returns c =
    let a = c.args in
    let l = c.loop-n in (
      through_all _ _ _ _ c.loop-n-test.false l.invariant.left
          ∙ timers_resynced_lem a.slots.now a.cells.now a.floats.now a.time a.clock refl refl refl refl refl refl,
      l.invariant.packed,
      l.invariant.same,
    )
