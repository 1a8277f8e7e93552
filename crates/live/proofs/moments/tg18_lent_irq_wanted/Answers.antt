use Rattle.std.proofs.Common.{refl}
use Rattle.state.specs.Bank.{parts_in}
use Rattle.system.specs.Bank.{machine_of}
use Rattle.live.proofs.Calls.{flag_number, stepped_wanted}
use Rattle.system.proofs.Banks.{wanted_done}
use Rattle.live.proofs.moments.tg18_lent_irq_wanted.Goals as goal

pub returns : goal.returns
returns c addresses values rtc page onsets frequencies duties starts codes f ram sram gpio fb =
    let a = c.args in
    let m = machine_of a.slots.now addresses values rtc page onsets frequencies duties starts codes
    (parts_in a.cells.now f) ram sram gpio fb in
    stepped_wanted m (flag_number _ c.from.ensures)
    (wanted_done m.system {x = parts_in a.cells.now f} refl (c.irq_wanted.ensures f))
