use Rattle.std.proofs.Common.{refl}
use Rattle.state.specs.Bank.{parts_in}
use Rattle.system.specs.Bank.{machine_of}
use Rattle.live.proofs.Calls.{stepped_press}
use Rattle.system.proofs.Banks.{press_done}
use Rattle.live.proofs.buttons.tg18_lent_press.Goals as goal

pub returns : goal.returns
returns c slots addresses values rtc page onsets frequencies duties ram sram gpio fb =
    let a = c.args in
    let m = machine_of slots addresses values rtc page onsets frequencies duties a.starts.now a.codes.now
    (parts_in a.cells.now a.floats.now) ram sram gpio fb in
    rw c.status.ensures (
      stepped_press m a.key a.at (press_done m.system a.key a.at {x = parts_in a.cells.now a.floats.now} refl
          (c.press.ensures.0)),
      c.press.ensures.1,
    )
