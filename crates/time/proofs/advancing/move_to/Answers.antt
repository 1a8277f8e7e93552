use Rattle.time.proofs.Clockwork.{moved_went}
use Rattle.state.specs.Bank.{parts_in}
use Rattle.time.proofs.advancing.move_to.Goals as goal

pub returns : goal.returns
returns c =
    let a = c.args in
    let x = parts_in a.cells.now a.floats.now in (
      moved_went a.slots.now a.gpio.now a.starts.now
          a.codes.now x a.clock a.t c.devices_advance.ensures.0 c.keys_of-k.ensures
          c.keys_held-held.ensures c.sync_gpio-applied.ensures (c.put_applied.ensures _).parts,
      λ k.
          (c.put_applied.ensures _).packed (c.devices_advance.ensures.1 k),
    )
