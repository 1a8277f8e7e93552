use Rattle.state.specs.Bank.{parts_in}
use Rattle.system.specs.Bank.{machine_of}
use Rattle.system.specs.Steps as steps
use Rattle.live.proofs.Calls.{called_bad, called_good, stepped_peek32}
use Rattle.live.proofs.access.tg18_lent_peek32.Goals as goal

pub returns-then-bad_memory : goal.returns-then-bad_memory
returns-then-bad_memory c rtc page onsets frequencies duties starts codes l f =
    let a = c.args in
    let m = machine_of a.slots.now a.addresses.now a.values.now rtc page onsets frequencies duties starts
    codes (parts_in l f) a.ram.now a.sram.now a.gpio.now a.fb.now in
    called_bad m (steps.peek32 a.address) c.bad_memory.ensures c.if-bad_memory.true

pub returns : goal.returns
returns c rtc page onsets frequencies duties starts codes l f =
    let a = c.args in
    let m = machine_of a.slots.now a.addresses.now a.values.now rtc page onsets frequencies duties starts
    codes (parts_in l f) a.ram.now a.sram.now a.gpio.now a.fb.now in
    called_good m (steps.peek32 a.address) c.bad_memory.ensures c.if-bad_memory.false (stepped_peek32 m a.address
    c.peek32.ensures)
