use Rattle.state.specs.Bank.{parts_in}
use Rattle.system.specs.Bank.{machine_of}
use Rattle.system.specs.Steps as steps
use Rattle.live.proofs.Calls.{called_bad, called_good, stepped_poke}
use Rattle.live.proofs.access.tg18_lent_poke.Goals as goal

pub returns-then-bad_memory : goal.returns-then-bad_memory
returns-then-bad_memory c slots addresses values rtc page onsets frequencies duties starts codes l f =
    let a = c.args in
    let m = machine_of slots addresses values rtc page onsets frequencies duties starts codes (parts_in l f)
    a.ram.now a.sram.now a.gpio.now a.fb.now in
    called_bad m (steps.poke a.address a.bytes.now) c.bad_memory.ensures c.if-bad_memory.true

pub returns : goal.returns
returns c slots addresses values rtc page onsets frequencies duties starts codes l f =
    let a = c.args in
    let m = machine_of slots addresses values rtc page onsets frequencies duties starts codes (parts_in l f)
    a.ram.now a.sram.now a.gpio.now a.fb.now in
    called_good m (steps.poke a.address a.bytes.now) c.bad_memory.ensures c.if-bad_memory.false (stepped_poke
    m a.address a.bytes.now c.poke.ensures)
