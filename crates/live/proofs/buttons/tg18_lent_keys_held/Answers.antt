use Rattle.state.specs.Bank.{parts_in}
use Rattle.system.specs.Bank.{machine_of}
use Rattle.live.proofs.Calls.{stepped_held}
use Rattle.live.proofs.buttons.tg18_lent_keys_held.Goals as goal

pub returns : goal.returns
returns c slots addresses values rtc page onsets frequencies duties ram sram gpio fb =
    let a = c.args in
    let m = machine_of slots addresses values rtc page onsets frequencies duties a.starts.now a.codes.now
    (parts_in a.cells.now a.floats.now) ram sram gpio fb in
    stepped_held m c.keys_of-keys.ensures c.times_of-moment.ensures c.keys_held.ensures c.number.ensures
