use Rattle.std.proofs.Common.{refl}
use Rattle.state.specs.Bank.{parts_in}
use Rattle.system.specs.Bank.{machine_of}
use Rattle.live.proofs.Calls.{stepped_hold}
use Rattle.system.proofs.Banks.{hold_done}
use Rattle.live.proofs.buttons.tg18_lent_hold_until.Goals as goal

pub returns : goal.returns
returns c slots addresses values rtc page onsets frequencies duties starts codes ram sram gpio fb =
    let a = c.args in
    let m = machine_of slots addresses values rtc page onsets frequencies duties starts codes (parts_in a.cells.now
    a.floats.now) ram sram gpio fb in
    rw c.status.ensures (
      stepped_hold m a.key a.until (hold_done m.system {x = parts_in a.cells.now a.floats.now} refl a.key a.until
          (c.hold_until.ensures.0)),
      c.hold_until.ensures.1,
    )
