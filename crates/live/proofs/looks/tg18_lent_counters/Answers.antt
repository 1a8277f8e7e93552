use Rattle.state.specs.Bank.{parts_in}
use Rattle.system.specs.Bank.{machine_of}
use Rattle.live.proofs.Calls.{flag_number, stepped_counters}
use Rattle.live.proofs.looks.tg18_lent_counters.Goals as goal

pub returns : goal.returns
returns c slots addresses values rtc page onsets frequencies duties starts codes f ram sram gpio fb =
    let a = c.args in
    let m = machine_of slots addresses values rtc page onsets frequencies duties starts codes (parts_in a.cells.now
    f) ram sram gpio fb in
    stepped_counters m c.frames_of.ensures c.writes_of.ensures c.off_of.ensures (flag_number _ c.from.ensures)
